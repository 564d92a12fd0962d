-- What holds of the pool's two words and of all its seats, between any two steps of any threads.
use Rattle.std.specs.Prelude.{◌≡◌, ℕ, ◌+◌, ◌-◌, ◌<◌, ◌≤◌, min, true, nat_lt, ◌==◌, if◌then◌else◌, List, [], ◌∷◌, All, Option, Some, None, is_some, IfSome}
use mathlib.Core.Option.{some}
use lib.ListN.{get_elem?}
use Rattle.atomic_table.specs.Table.{State, Me, Step}
use Rattle.ante_pool.specs.declared.words.Known.{Known}
use Rattle.ante_pool.specs.declared.Looked.{Looked}
use Rattle.ante_pool.specs.declared.Looked.TheVariants.{Running, Rung}
use Rattle.ante_pool.specs.declared.Ringing.{Ringing}
use Rattle.ante_pool.specs.declared.Ringing.TheVariants.{Won, Lost}
use Rattle.ante_pool.specs.Seats.{whole_share, after_claim, after_look, after_ring, times, IsOnce, AllBelow}

-- f of each seat, added up
abbrev pub total : (Known → ℕ) → List Known → ℕ
total f [] = 0
total f (v ∷ vs) = f v + total f vs

-- 1 where x is below n, and else 0
abbrev pub below : ℕ → ℕ → ℕ
below x n = if nat_lt x n then 1 else 0

-- the share of a seat that was told that no job is left
abbrev pub ended_share : Known → ℕ
ended_share v = if v.ended then v.share else 0

-- 1 for the seat whose ring was the first
abbrev pub wins : Known → ℕ
wins v = if is_some v.won then 1 else 0

-- 1 where the bell was rung
abbrev pub rings : ℕ → ℕ
rings bell = if bell == 0 then 0 else 1

-- What holds of one seat. The second word is 0, or the moment of the ring and one more
pub record Fits (jobs drawn bell : ℕ) (v : Known) : Type 0 where
  pub spent : v.share ≡ 0 → (v.numbers ≡ []) × (v.moments ≡ []) × (v.won ≡ None)
  pub same : 0 < v.share → v.jobs ≡ jobs
  pub ended : v.ended ≡ true → jobs ≤ drawn
  pub moments : All (λ m. bell ≡ m + 1) v.moments
  pub won : IfSome v.won (λ m. bell ≡ m + 1)

-- What holds of all seats together: the shares are the whole, the jobs that they have are the numbers below the first word and
-- the number of jobs, each once, the first word can't wrap, and one seat rang first where the bell was rung
pub record Kept (jobs drawn bell : ℕ) (views : List Known) : Type 0 where
  pub few : jobs < whole_share
  pub shares : total (λ v. v.share) views ≡ whole_share
  pub numbers : (x : ℕ) → total (λ v. times x v.numbers) views ≡ below x (min drawn jobs)
  pub bound : drawn ≤ jobs + total ended_share views
  pub winners : total wins views ≡ rings bell
  pub each : (id : ℕ) (v : Known) → get_elem? views id ≡ some v → Fits jobs drawn bell v

-- the rule, of a pool of so many jobs
abbrev pub Standing : ℕ → State (Unit {0}) Known → Type 0
Standing jobs s = (drawn : ℕ) × (bell : ℕ) × (s.words ≡ drawn ∷ bell ∷ []) × Kept jobs drawn bell s.views

-- what the first word's old value says of a claim, and the second's of a look and a ring
abbrev pub claimed : ℕ → ℕ → Option ℕ
claimed jobs found = if nat_lt found jobs then Some found else None

abbrev pub looked : ℕ → Looked
looked found = if found == 0 then Running else Rung (found - 1)

abbrev pub ringing : ℕ → Ringing
ringing found = if found == 0 then Won else Lost (found - 1)

-- What a claim, a look and a ring tell their seat: of the step, the seat before, the word found and the seat after
abbrev pub Drew : Step (Unit {0}) → Me (Unit {0}) Known → ℕ → Me (Unit {0}) Known → Type 0
Drew step me found next = (next ≡ (after_claim me.0 (claimed me.0.jobs found), me.1)) × IsOnce next.0.numbers × AllBelow found me.0.numbers

abbrev pub Saw : Step (Unit {0}) → Me (Unit {0}) Known → ℕ → Me (Unit {0}) Known → Type 0
Saw step me found next = (next ≡ (after_look me.0 (looked found), me.1)) × All (λ m. found ≡ m + 1) me.0.moments × IsOnce next.0.numbers

abbrev pub Rang : Step (Unit {0}) → Me (Unit {0}) Known → ℕ → Me (Unit {0}) Known → Type 0
Rang step me found next = (next ≡ (after_ring me.0 (step.second - 1) (ringing found), me.1)) × All (λ m. found ≡ m + 1) me.0.moments
