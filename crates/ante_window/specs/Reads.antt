-- What a reader brings back of the jobs that it claimed.
use Rattle.std.specs.Prelude.{◌≡◌, ℕ, ◌<◌, ◌+◌, ◌≤◌, ◌⊎◌, min, option_map, Bool, true, false, Option, Some, None, List, [], map, length, slice_index_or, Result, Ok, Err, IfSome}
use Rattle.std.specs.List.{AllByRecursion}
use Rattle.ante_port.specs.declared.ReadEnd.{ReadEnd}
use Rattle.ante_port.specs.declared.ReadEnd.TheVariants.{Done as Replied, Cut}
use Rattle.ante_pool.specs.declared.words.Known.{Known}
use Rattle.ante_window.specs.declared.outcome.Outcome.{Outcome}
use Rattle.ante_window.specs.declared.outcome.Outcome.TheVariants.{Done, Back, OutOfMemory}
use Rattle.ante_window.specs.declared.outcome.Entry.{Entry}
use Rattle.ante_window.specs.declared.outcome.Bell.{Bell}
use Rattle.ante_pool.specs.declared.PoolEnd.{PoolEnd}
use Rattle.ante_pool.specs.Seats.{times}
use Rattle.ante_pool.specs.Standing.{below}
use Rattle.ante_window.specs.Watching.{has, IsLate, IsOver}

-- a read gives the reply, or was cut at one of these moments, or lacked memory
abbrev pub IsAnswer : {R E : Type 0} → R → List ℕ → Result (ReadEnd R) E → Type 0
IsAnswer reply moments (Ok (Replied r)) = r ≡ reply
IsAnswer reply moments (Ok (Cut at)) = has at moments ≡ true
IsAnswer reply moments (Err e) = Unit {0}

-- an outcome, where the bell was rung with this moment
abbrev pub TellsOutcome : {R : Type 0} → R → Option ℕ → Outcome R → Type 0
TellsOutcome reply rung (Done r) = r ≡ reply
TellsOutcome reply rung (Back at) = rung ≡ Some at
TellsOutcome reply rung OutOfMemory = Unit {0}

-- the same of an outcome
abbrev pub IsOutcome : {R : Type 0} → R → List ℕ → Outcome R → Type 0
IsOutcome reply moments (Done r) = r ≡ reply
IsOutcome reply moments (Back at) = has at moments ≡ true
IsOutcome reply moments OutOfMemory = Unit {0}

-- the entry is of one of the jobs, and has that job's outcome
abbrev pub IsGiven : {J R : Type 0} → (J → R) → List J → List ℕ → Entry R → Type 0
IsGiven answer jobs moments e = (e.job < length jobs) × ((d : _) → IsOutcome (answer (slice_index_or jobs e.job d)) moments e.outcome)

-- the same, where the moment of a cut is the one of the bell
abbrev pub IsTold : {J R : Type 0} → (J → R) → List J → Option ℕ → Entry R → Type 0
IsTold answer jobs rung e = (e.job < length jobs) × ((d : _) → TellsOutcome (answer (slice_index_or jobs e.job d)) rung e.outcome)

-- What a reader's log is, beside what its seat knows: an entry for each job that the seat claimed, with the outcome; where the seat
-- has rung the bell, late; and where it claimed a job, the clock told a moment below the deadline
pub record IsRun {J R : Type 0} (answer : J → R) (jobs : List J) (told : ℕ → Type 0) (deadline : ℕ) (v : Known) (log : List (Entry R)) : Type 0 where
  pub numbers : map (λ (e : Entry R). e.job) log ≡ v.numbers
  pub outcomes : AllByRecursion (IsGiven answer jobs v.moments) log
  pub won : IfSome v.won (IsLate told deadline)
  pub early : (v.numbers ≡ []) ⊎ ((m : ℕ) × told m × (m < deadline))

-- the outcome is that of a job that was cut
abbrev pub IsBack : {R : Type 0} → Outcome R → Type 0
IsBack (Done r) = ⊥
IsBack (Back at) = Unit {0}
IsBack OutOfMemory = ⊥

-- no later job in the log has the entry's reader
abbrev pub IsLastIn : {R : Type 0} → List (Entry R) → Entry R → Type 0
IsLastIn log e = AllByRecursion (λ (f : Entry _). f.reader ≡ e.reader → f.job ≤ e.job) log

-- The log is of these readers, and each entry that came Back is its reader's last
pub record IsBy {R : Type 0} (Mine : ℕ → Type 0) (log : List (Entry R)) : Type 0 where
  pub readers : AllByRecursion (λ (e : Entry R). Mine e.reader) log
  pub backs : AllByRecursion (λ (e : Entry R). IsBack e.outcome → IsLastIn log e) log

-- the bell was rung by one of these readers, at the moment that stands; or it wasn't rung
pub record IsBellOf (Mine : ℕ → Type 0) (rung : Option ℕ) (bell : Option Bell) : Type 0 where
  pub moment : option_map (λ (b : Bell). b.moment) bell ≡ rung
  pub reader : IfSome bell (λ (b : Bell). Mine b.reader)

-- a seat that has claimed, seen and won nothing
abbrev pub IsFresh : Known → Type 0
IsFresh v = (v.numbers ≡ []) × (v.moments ≡ []) × (v.won ≡ None) × (v.ended ≡ false)

-- One turn of a reader: the seat has one job more and goes on, or it is over
abbrev pub Goes : Known → Bool → Known → Type 0
Goes v true w = (w.share ≡ v.share) × (length w.numbers ≡ length v.numbers + 1) × (w.ended ≡ false)
Goes v false w = (w.share ≡ v.share) × IsOver w

-- what these readers bring back together: the seat that is left, whose log this is, that it is over, and who rang the bell
abbrev pub IsBrought : {J R : Type 0} → (J → R) → List J → (told : ℕ → Type 0) → ℕ → (Mine : ℕ → Type 0) → Known → List (Entry R) → Option Bell → Type 0
IsBrought answer jobs told deadline Mine v log bell = IsRun answer jobs told deadline v log × IsOver v × IsBy Mine log × IsBellOf Mine v.won bell

-- What the readers did in a window, by how the pool ended: a log of each claimed job's outcome, of the jobs before the number of
-- claims each once; all jobs, where the bell wasn't rung; and a moment that it was rung with is late and was told
pub record IsReport {J R : Type 0} (answer : J → R) (jobs : List J) (told : ℕ → Type 0) (deadline readers : ℕ) (log : List (Entry R)) (bell : Option Bell) (end : PoolEnd) : Type 0 where
  pub outcomes : AllByRecursion (IsTold answer jobs end.rung) log
  pub once : (x : ℕ) → times x (map (λ (e : Entry R). e.job) log) ≡ below x (min end.drawn (length jobs))
  pub late : IfSome end.rung (IsLate told deadline)
  pub whole : end.rung ≡ None → length jobs ≤ end.drawn
  pub early : (log ≡ []) ⊎ ((m : ℕ) × told m × (m < deadline))
  pub by : IsBy (λ r. r < readers) log
  pub rang : IsBellOf (λ r. r < readers) end.rung bell
