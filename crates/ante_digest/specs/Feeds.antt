-- Feeding a hasher.
use Rattle.std.specs.Prelude.{ℕ, List, [], ◌++◌, Option, Some, None}
use Rattle.sha2.specs.Hashers.{Holds256}
use Rattle.sha2.specs.declared.Sha256.{Sha256}

-- after what the hasher held it holds the piece
pub record Feeds (old new : Sha256) (piece : List ℕ) : Type 0 where
  pub is : (m : List ℕ) → Holds256 old m → Holds256 new (m ++ piece)

-- the packed form of an entry, and nothing where there is none
abbrev pub piece_of : {A : Type 0} → (A → List ℕ) → Option A → List ℕ
piece_of packed None = []
piece_of packed (Some e) = packed e
