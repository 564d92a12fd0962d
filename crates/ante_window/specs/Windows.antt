-- A window: what each job came to, who claimed it, and the events.
use Rattle.std.specs.Prelude.{◌≡◌, ℕ, ◌<◌, ◌≤◌, ◌⊎◌, List, length, slice_index_or, Option, None, option_map, IfSome}
use Rattle.std.specs.List.{AllByRecursion}
use Rattle.ante_window.specs.declared.outcome.Outcome.{Outcome}
use Rattle.ante_window.specs.declared.outcome.Entry.{Entry}
use Rattle.ante_window.specs.declared.outcome.Bell.{Bell}
use Rattle.ante_window.specs.declared.schedule.WindowEvent.{WindowEvent}
use Rattle.ante_window.specs.Watching.{IsLate}
use Rattle.ante_window.specs.Reads.{TellsOutcome, IsBack, IsLastIn}
use Rattle.ante_window.specs.Fates.{nobody, entries_from}
use Rattle.ante_window.specs.Schedule.{turns_from, schedule}

-- A job, where so many were claimed, by these workers: it came to the state's reply, to Back at the moment of the ring, or to a lack of
-- memory. A job below the number of claims has its reader; another has none, and came Back
pub record IsFate {J R : Type 0} (answer : J → R) (jobs : List J) (rung : Option ℕ) (workers claimed : ℕ) (e : Entry R) : Type 0 where
  pub told : (d : J) → TellsOutcome (answer (slice_index_or jobs e.job d)) rung e.outcome
  pub owned : e.job < claimed → e.reader < workers
  pub unclaimed : claimed ≤ e.job → (e.reader ≡ nobody) × IsBack e.outcome

-- when the bell was rung
abbrev pub moment_of : Option Bell → Option ℕ
moment_of bell = option_map (λ (b : Bell). b.moment) bell

-- A window of these jobs, in which the clock told such moments: one outcome and one owner a job. The jobs below the number of claims were
-- claimed, and no other; all were, where the bell wasn't rung. A reader's job that came Back is its last. A ring is one of a worker, at a
-- moment that the clock told and that is at least the deadline. Where a job was claimed, the clock told a moment below the deadline.
-- The events are the schedule of outcomes, owners and ring
pub record IsWindow {J R : Type 0} (answer : J → R) (jobs : List J) (told : ℕ → Type 0) (deadline workers : ℕ) (outcomes : List (Outcome R)) (owners : List ℕ) (list : List WindowEvent) : Type 0 where
  pub bell : Option Bell
  pub claimed : ℕ
  pub ended : length outcomes ≡ length jobs
  pub owned : length owners ≡ length jobs
  pub each : AllByRecursion (IsFate answer jobs (moment_of bell) workers claimed) (entries_from 0 owners outcomes)
  pub backs : AllByRecursion (λ (e : Entry R). e.reader < workers → IsBack e.outcome → IsLastIn (entries_from 0 owners outcomes) e) (entries_from 0 owners outcomes)
  pub late : IfSome bell (λ (b : Bell). (b.reader < workers) × IsLate told deadline b.moment)
  pub whole : bell ≡ None → length jobs ≤ claimed
  pub early : (claimed ≡ 0) ⊎ ((m : ℕ) × told m × (m < deadline))
  pub events : list ≡ schedule (turns_from 0 owners outcomes) bell
