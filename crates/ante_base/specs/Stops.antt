-- Stops, which an interpreter looks at: what looks answer, and how many there were.
use Rattle.std.specs.Prelude.{◌≡◌, ℕ, ◌+◌, ◌^◌, min, max, List, [], ◌∷◌, Option, Some, None}

-- The stop is reached by looks that gave these answers, in this order.
abbrev pub Looks : {S : Type 0} → (may : S → Option ℕ → S → Type 0) → S → List (Option ℕ) → S → Type 0
Looks may old [] new = new ≡ old
Looks may old (answer ∷ answers) new = (next : _) × may old answer next × Looks may next answers new

-- a count after so many looks more, which stays at 2 ^ 63
abbrev pub looked : ℕ → ℕ → ℕ
looked count more = max count (min (count + more) (2 ^ 63))

-- The count, where the stop tells it, has risen by so many looks.
abbrev pub Rises : ℕ → Option ℕ → Option ℕ → Type 0
Rises more None after = Unit {0}
Rises more (Some count) after = after ≡ Some (looked count more)

-- A stop that answers the look of one number: that number, counted from 0, what it answers, and how many looks there were.
pub record OneAnswer : Type 0 where
  pub number : ℕ
  pub moment : ℕ
  pub looks : ℕ
