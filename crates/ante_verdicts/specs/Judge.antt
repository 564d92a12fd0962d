-- What signatures and seals mean.
use Rattle.std.specs.Prelude.{◌≡◌, ℕ, ◌≤◌, Bool, true, List, length, Option}

pub record Judge : Type 0 where
  -- the key that signed the digest
  pub recovers : (digest signature : List ℕ) → Option (List ℕ)
  -- whether the seal is one that the producer may set under the block of this id
  pub accepts : (producer : ℕ) → (id seal : List ℕ) → Bool
  -- the seal that the producer sets
  pub seals : (producer : ℕ) → (id : List ℕ) → List ℕ

-- A seal that is set is 1 to 256 bytes, and is accepted.
abbrev pub IsSealed : Judge → (producer : ℕ) → (id : List ℕ) → Type 0
IsSealed j producer id =
    (1 ≤ length (j.seals producer id)) × (length (j.seals producer id) ≤ 256) × (j.accepts producer id (j.seals producer id) ≡ true)
