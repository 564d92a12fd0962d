-- What each job of a window came to: a list of owners and one of outcomes, in the order of the jobs.
use Rattle.std.specs.Prelude.{◌≡◌, ℕ, ◌+◌, ◌<◌, ◌⊎◌, List, [], ◌∷◌, map, length, slice_index_or, Option, Some, remove}
use Rattle.std.specs.List.{AllByRecursion}
use Rattle.ante_pool.specs.Seats.{times}
use Rattle.ante_window.specs.declared.outcome.Outcome.{Outcome}
use Rattle.ante_window.specs.declared.outcome.Outcome.TheVariants.{Back}
use Rattle.ante_window.specs.declared.outcome.Entry.{Entry}

-- the owner of a job that nobody claimed
abbrev pub nobody : ℕ
nobody = 4294967295

-- the jobs of a log's entries
abbrev pub jobs_of : {R : Type 0} → List (Entry R) → List ℕ
jobs_of log = map (λ (e : Entry _). e.job) log

-- an entry for each job from this one on, of these owners and these outcomes
abbrev pub entries_from : {R : Type 0} → ℕ → List ℕ → List (Outcome R) → List (Entry R)
entries_from job [] outcomes = []
entries_from job (o ∷ os) [] = []
entries_from job (o ∷ os) (x ∷ xs) = record { job = job; reader = o; outcome = x } ∷ entries_from (job + 1) os xs

-- the entry is in the log
abbrev pub IsIn : {R : Type 0} → List (Entry R) → Entry R → Type 0
IsIn [] e = ⊥
IsIn (x ∷ xs) e = (x ≡ e) ⊎ IsIn xs e

-- nobody claimed the job, and it came Back when the bell was rung
abbrev pub IsLeft : {R : Type 0} → Option ℕ → Entry R → Type 0
IsLeft rung e = (e.reader ≡ nobody) × ((at : ℕ) × (e.outcome ≡ Back at) × (rung ≡ Some at))

-- The job's entry was taken out of the log; or the log has none, and the job was left
abbrev pub IsTaken : {R : Type 0} → ℕ → Option ℕ → List (Entry R) → List (Entry R) → Entry R → Type 0
IsTaken job rung old new e =
    (e.job ≡ job) × (((k : ℕ) × (k < length old) × (e ≡ slice_index_or old k e) × (new ≡ remove old k)) ⊎ ((new ≡ old) × (times job (jobs_of old) ≡ 0) × IsLeft rung e))

-- the entry is the log's, or the log has none of this job, which was left
abbrev pub IsFateIn : {R : Type 0} → List (Entry R) → Option ℕ → Entry R → Type 0
IsFateIn log rung e = IsIn log e ⊎ ((times e.job (jobs_of log) ≡ 0) × IsLeft rung e)

-- one owner and one outcome for each of so many jobs, each as the log has it
pub record AreFates {R : Type 0} (log : List (Entry R)) (count : ℕ) (rung : Option ℕ) (owners : List ℕ) (outcomes : List (Outcome R)) : Type 0 where
  pub owned : length owners ≡ count
  pub ended : length outcomes ≡ count
  pub each : AllByRecursion (IsFateIn log rung) (entries_from 0 owners outcomes)
