-- How many results blocks and functions have: one at most.
use Rattle.std.specs.Prelude.{ℕ, Bool, true, false, List, [], ◌∷◌, Option, None, Some}
use Rattle.ante_wtree.specs.declared.instructions.ValueKind.{ValueKind}

abbrev pub arity : Option ValueKind → ℕ
arity None = 0
arity (Some kind) = 1

abbrev pub gives_none : List ValueKind → Bool
gives_none [] = true
gives_none (kind ∷ kinds) = false
