-- What a reader's looks at the pool and the clock make of its seat.
use Rattle.std.specs.Prelude.{◌≡◌, ℕ, ◌<◌, ◌≤◌, ◌⊎◌, ◌≢◌, Bool, true, false, ◌||◌, ◌==◌, List, [], ◌∷◌, ◌++◌, Option, Some, None, IfSome}
use Rattle.ante_pool.specs.declared.words.Known.{Known}
use Rattle.ante_pool.specs.Seats.{AllBelow}

-- A look that doesn't ask to end was told a moment below the deadline, and no look before it asked. One that does has seen the moment of the bell; and where this
-- seat has rung it, the clock told that moment, which is at least the deadline
abbrev pub LooksAt : (told : ℕ → Type 0) → (deadline : ℕ) → Known → Option ℕ → Known → Type 0
LooksAt told deadline v None w = (w ≡ v) × ((m : ℕ) × told m × (m < deadline)) × (v.moments ≡ [])
LooksAt told deadline v (Some at) w = (w ≡ record v { moments = v.moments ++ at ∷ []; won = w.won }) × ((w.won ≡ v.won) ⊎ ((w.won ≡ Some at) × told at × (deadline ≤ at)))

-- whether the moment is in the list
abbrev pub has : ℕ → List ℕ → Bool
has at [] = false
has at (m ∷ ms) = (m == at) || has at ms

-- the clock told the moment, which is at least the deadline
abbrev pub IsLate : (told : ℕ → Type 0) → ℕ → ℕ → Type 0
IsLate told deadline m = told m × (deadline ≤ m)

-- What several looks add up to
pub record Watches (told : ℕ → Type 0) (deadline : ℕ) (v w : Known) : Type 0 where
  pub jobs : w.jobs ≡ v.jobs
  pub share : w.share ≡ v.share
  pub numbers : w.numbers ≡ v.numbers
  pub moments : (more : List ℕ) × (w.moments ≡ v.moments ++ more)
  pub won : IfSome v.won (IsLate told deadline) → IfSome w.won (IsLate told deadline)

-- no job is left, or the bell was seen to be rung
abbrev pub IsOver : Known → Type 0
IsOver v = (v.ended ≡ true) ⊎ (v.moments ≢ [])

-- What a claim makes of a seat, with the look before it. A job is claimed only where no look asked to end, and after all jobs that the
-- seat claimed before
abbrev pub Claims : (told : ℕ → Type 0) → ℕ → Known → Option ℕ → Known → Type 0
Claims told deadline v (Some n) w = (w ≡ record v { numbers = v.numbers ++ n ∷ [] }) × ((m : ℕ) × told m × (m < deadline)) × (v.moments ≡ []) × AllBelow n v.numbers
Claims told deadline v None w = Watches told deadline v w × IsOver w
