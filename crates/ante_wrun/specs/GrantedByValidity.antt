-- What a valid module has, so that making an instance doesn't ask for it.
use Rattle.std.specs.Prelude.{◌≡◌, ◌<◌, List, length, None}
use Rattle.ante_wtree.specs.declared.modules.FuncType.{FuncType}
use Rattle.ante_wtree.specs.declared.modules.ImportKind.{ImportKind}
use Rattle.ante_wtree.specs.declared.modules.ImportKind.TheVariants as import
use Rattle.ante_wtree.specs.declared.modules.Import.{Import}
use Rattle.ante_wtree.specs.declared.modules.Init.{Init}
use Rattle.ante_wvalid.specs.Modules.{constant_kind}
use Rattle.ante_wmeaning.specs.Instantiation.{host_place}

-- a function is imported, and its type is there
abbrev pub IsFunctionOf : List FuncType → ImportKind → Type 0
IsFunctionOf types (import.Function kind) = kind < length types
IsFunctionOf types (import.Table limits) = ⊥
IsFunctionOf types (import.Memory limits) = ⊥
IsFunctionOf types (import.Global kind changes) = ⊥

-- the import is of a function whose type is there, and hosts have one of its name
abbrev pub Links : List FuncType → Import → Type 0
Links types i = IsFunctionOf types i.kind × (host_place i.name ≡ None → ⊥)

-- the initialiser is a number: no global is imported whose value could be taken
abbrev pub IsLiteral : Init → Type 0
IsLiteral i = constant_kind i ≡ None → ⊥
