-- Writing at the end.
use Rattle.std.specs.Prelude.{◌≡◌, ℕ, List, ◌++◌}

-- the new bytes are the old ones and then the piece
pub record Adds (old new piece : List ℕ) : Type 0 where
  pub is : new ≡ old ++ piece
