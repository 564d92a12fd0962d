-- What the entries of a map weigh, each by its key and its value.
use Rattle.std.specs.Prelude.{ℕ, ◌+◌, List, [], ◌∷◌, Option, Some, None}

module _ {K V : Type 0} (weight : K × V → ℕ) where
  -- all entries together
  abbrev pub weight_of : List (K × V) → ℕ
  weight_of [] = 0
  weight_of (e ∷ es) = weight e + weight_of es

  -- the value at a key, if there is one
  abbrev pub weight_at : K → Option V → ℕ
  weight_at k None = 0
  weight_at k (Some v) = weight (k, v)
