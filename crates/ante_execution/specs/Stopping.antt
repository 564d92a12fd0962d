-- How the parts of a run leave the stop that they are lent.
use Rattle.std.specs.Prelude.{ℕ, List, Option, Some}
use Rattle.ante_base.specs.Stops.{Looks}

module _ {S : Type 0} (may : S → Option ℕ → S → Type 0) where
  -- some looks lead there
  abbrev pub Reaches : S → S → Type 0
  Reaches old new = (answers : List (Option ℕ)) × Looks may old answers new

  -- and then one that asked to stop, and told this moment
  abbrev pub AskedAt : (old : S) → (at : ℕ) → (new : S) → Type 0
  AskedAt old at new = (before : S) × Reaches old before × may before (Some at) new
