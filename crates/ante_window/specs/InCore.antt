-- A window's events as those of the window core.
use Rattle.std.specs.Prelude.{◌≡◌, ℕ, Bool, true, false, List, [], ◌∷◌, ◌++◌, map, length, slice_get, Option, Some, None, IsSome}
use Rattle.std.specs.List.{AllByRecursion, range_with_len}
use Rattle.ante_core.specs.declared.Piece.TheVariants.{Ready}
use Rattle.ante_core.specs.declared.Event.{Event}
use Rattle.ante_core.specs.declared.Event.TheVariants as core
use Rattle.ante_core.specs.declared.DoneJob.{DoneJob}
use Rattle.ante_core.specs.Machine.{Meaning, State, core_step}
use Rattle.ante_core.specs.Runs.{after_event, run}
use Rattle.ante_pool.specs.Seats.{times}
use Rattle.ante_window.specs.declared.outcome.Outcome.{Outcome}
use Rattle.ante_window.specs.declared.outcome.Outcome.TheVariants.{Done, Back, OutOfMemory}
use Rattle.ante_window.specs.declared.schedule.WindowEvent.{WindowEvent}
use Rattle.ante_window.specs.declared.schedule.WindowEvent.TheVariants as event

-- the lent state is the world, a frame is the job, and one piece of it gives the reply
abbrev pub meaning : {S J R : Type 0} → (S → J → R) → Meaning S (Unit {0}) J J R
meaning answer = record { applied = λ state write. state; begun = λ state job. job; advanced = λ state job. Ready (answer state job) }

-- an event in the core, with whether it wants memory: Finish is a piece that gives the reply, and Starve one that wants memory
abbrev pub in_core : {S J R : Type 0} → WindowEvent → Event (Unit {0}) S (Unit {0}) J J R × Bool
in_core (event.Claim reader job) = (core.Claim reader, false)
in_core (event.Finish reader job) = (core.Advance reader, false)
in_core (event.Starve reader job) = (core.Advance reader, true)
in_core (event.Ring reader moment) = (core.Ring reader moment, false)
in_core (event.Cut reader job) = (core.Cut reader, false)
in_core event.Close = (core.Close, false)

-- the core over the lent state with these jobs taken, once a window over them has begun
abbrev pub begun_over : {S J R : Type 0} → S → List J → ℕ → State S J J R
begun_over state jobs deadline = record {
  world = state;
  position = 0;
  jobs = jobs;
  done = [];
  window = Some (record { deadline = deadline; listed = range_with_len 0 (length jobs); drawn = 0; rung = None; held = [] });
}

-- each of the events has a row in the state that those before it leave
abbrev pub RunsIn : {S J R : Type 0} → (S → J → R) → State S J J R → List WindowEvent → Type 0
RunsIn answer s [] = Unit {0}
RunsIn answer s (e ∷ es) = IsSome (core_step (meaning answer) s (in_core e).0) × RunsIn answer (after_event (meaning answer) s (in_core e)) es

-- the core after these events
abbrev pub after_window : {S J R : Type 0} → (S → J → R) → State S J J R → List WindowEvent → State S J J R
after_window answer s events = run (meaning answer) s (map (λ e. in_core e) events)

-- how often a job of this outcome gets onto the done list
abbrev pub times_done : {R : Type 0} → Option (Outcome R) → ℕ
times_done None = 0
times_done (Some (Done r)) = 1
times_done (Some (Back at)) = 0
times_done (Some OutOfMemory) = 0

-- What a window's events leave of the core: no window, and the same world, position and jobs. The done list has grown by the jobs whose
-- outcome is Done, each once, with its reply and at this position
pub record Leaves {S J R : Type 0} (outcomes : List (Outcome R)) (old new : State S J J R) : Type 0 where
  pub more : List (DoneJob R)
  pub is : new ≡ record old { done = old.done ++ more; window = None }
  pub each : AllByRecursion (λ (d : DoneJob R). (slice_get outcomes d.job ≡ Some (Done d.reply)) × (d.position ≡ old.position)) more
  pub once : (job : ℕ) → times job (map (λ (d : DoneJob R). d.job) more) ≡ times_done (slice_get outcomes job)
