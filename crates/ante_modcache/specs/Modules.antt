-- Which module is a code's, and what a refusal says of a code.
use Rattle.std.specs.Prelude.{ℕ, List}
use Rattle.ante_wtree.specs.declared.modules.Module.{Module}
use Rattle.ante_wtree.specs.Trees.{Tree, tree_of}
use Rattle.ante_wdecode.specs.declared.fault.DecodeError.{DecodeError}
use Rattle.ante_wdecode.specs.declared.fault.DecodeError.TheVariants as decoding
use Rattle.ante_wdecode.specs.Sections.{Encodes}
use Rattle.ante_wdecode.specs.Decoding.{Blames, IsFirst}
use Rattle.ante_wvalid.specs.declared.kinds.ValidateError.{ValidateError}
use Rattle.ante_wvalid.specs.declared.kinds.ValidateError.TheVariants as validation
use Rattle.ante_wvalid.specs.Modules.{IsValid, IsFirstInvalid}
use Rattle.ante_modcache.specs.declared.fault.CodeFault.{CodeFault}
use Rattle.ante_modcache.specs.declared.fault.CodeFault.TheVariants as fault
use Rattle.ante_modcache.specs.declared.fault.ModuleError.{ModuleError}
use Rattle.ante_modcache.specs.declared.fault.ModuleError.TheVariants as error

-- The code encodes this module, which is valid.
abbrev pub IsModuleOf : List ℕ → Module → Type 0
IsModuleOf code m = Encodes (tree_of m) code × IsValid (tree_of m)

-- what decoding and validation answer, as the cache does
abbrev pub of_decoding : DecodeError → ModuleError
of_decoding decoding.OutOfMemory = error.OutOfMemory
of_decoding (decoding.Fault at kind) = error.BadCode (fault.Decode at kind)

abbrev pub of_validation : ValidateError → ModuleError
of_validation validation.OutOfMemory = error.OutOfMemory
of_validation (validation.Invalid kind) = error.BadCode (fault.Invalid kind)

-- The fault is the first of the code's bytes, or, where they encode a module, the first of the module.
abbrev pub IsFaultOf : List ℕ → CodeFault → Type 0
IsFaultOf code (fault.Decode at kind) = Blames (decoding.Fault at kind) code × IsFirst (decoding.Fault at kind) code
IsFaultOf code (fault.Invalid kind) = (m : Tree) × Encodes m code × IsFirstInvalid m kind

-- what a refusal says of the code; nothing, where memory was wanted
abbrev pub Refuses : List ℕ → ModuleError → Type 0
Refuses code error.OutOfMemory = Unit {0}
Refuses code (error.BadCode f) = IsFaultOf code f

abbrev pub IsMemory : ModuleError → Type 0
IsMemory error.OutOfMemory = Unit {0}
IsMemory (error.BadCode f) = ⊥
