-- Going over a map in the order of its keys.
use Rattle.std.specs.Prelude.{List, [], ◌∷◌, Option, Some, None, if◌then◌else◌}
use Rattle.std.specs.declared.cmp.Ordering.{Ordering}
use Rattle.std.specs.Ordering.{is_gt}

module _ {K V : Type 0} where
  -- the entries still to come after a key, or all of them
  abbrev pub past : (K → K → Ordering) → Option K → List (K × V) → List (K × V)
  past cmp None m = m
  past cmp (Some key) [] = []
  past cmp (Some key) (e ∷ es) = if is_gt (cmp e.0 key) then e ∷ es else past cmp (Some key) es
