-- When a program is that of a typed module.
use Rattle.std.specs.Prelude.{◌≡◌, ℕ, ◌≤◌, List, [], length, slice_get, Some}
use Rattle.ante_wtree.specs.declared.instructions.ValueKind.{ValueKind}
use Rattle.ante_wtree.specs.declared.modules.FuncType.{FuncType}
use Rattle.ante_wtree.specs.Trees.{Tree}
use Rattle.ante_wtree.specs.Types.{kinds_of, result_of}
use Rattle.ante_wvalid.specs.Typing.{Typed, type_numbered}
use Rattle.ante_wvalid.specs.Modules.{function_types, context_of}
use Rattle.ante_wmeaning.specs.Configurations.{FunctionInstance, Own, Given, Missing, Program}

-- A function of this type: an own one has a typed body, and as many locals as this was typed with.
abbrev pub IsOf : Tree → FunctionInstance → FuncType → Type 0
IsOf m (Own kind locals body) t =
    (kind ≡ t) × (kinds : List ValueKind) × (length kinds ≡ locals)
    × Typed (context_of m t.params kinds (result_of t.results)) body [] (kinds_of (result_of t.results))
IsOf m (Given kind number) t = kind ≡ t
IsOf m Missing t = ⊥

-- the function of this number has this type in the module
abbrev pub HasKind : Tree → ℕ → FuncType → Type 0
HasKind m f t = type_numbered m.types (slice_get (function_types m) f) ≡ Some t

-- The program has the module's types, for each function one of its type, and in the table only functions of the module.
pub record IsTyped (m : Tree) (program : Program) : Type 0 where
  pub types : program.types ≡ m.types
  pub results : (n : ℕ) (t : FuncType) → slice_get m.types n ≡ Some t → length t.results ≤ 1
  pub functions : (f : ℕ) (t : FuncType) → HasKind m f t → (i : FunctionInstance) × (slice_get program.functions f ≡ Some i) × IsOf m i t
  pub table : (at f : ℕ) → slice_get program.table at ≡ Some (Some f) → (t : FuncType) × HasKind m f t
