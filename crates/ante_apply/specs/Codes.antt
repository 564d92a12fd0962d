-- The module of a code, as it is found.
use Rattle.std.specs.Prelude.{◌≡◌, ℕ, Bool, true, false, List, Option, None, Some, Ok}
use Rattle.ante_wtree.specs.Trees.{tree_of}
use Rattle.ante_wdecode.specs.Decoding.{module_at}
use Rattle.ante_modcache.specs.declared.cache.ModuleRef.{ModuleRef}
use Rattle.ante_modcache.specs.References.{module_in}

-- an accepted code has the module that it encodes, and any other has none
abbrev pub IsModuleFor : (accepts : List ℕ → Bool) → (code : List ℕ) → Option ModuleRef → Type 0
IsModuleFor accepts code (Some m) = (accepts code ≡ true) × (module_at code ≡ Ok (tree_of (module_in m)))
IsModuleFor accepts code None = accepts code ≡ false
