-- What a refusal says of a module; nothing where memory was wanted.
use Rattle.std.specs.Prelude.{◌≡◌, ℕ, ◌<◌}
use Rattle.ante_wtree.specs.Trees.{Tree}
use Rattle.ante_wvalid.specs.declared.kinds.InvalidKind.{InvalidKind}
use Rattle.ante_wvalid.specs.declared.kinds.ValidateError.{ValidateError}
use Rattle.ante_wvalid.specs.declared.kinds.ValidateError.TheVariants as error
use Rattle.ante_wvalid.specs.Modules.{Applies, IsFirstInvalid, place}

abbrev pub Refuses : Tree → ValidateError → Type 0
Refuses m error.OutOfMemory = Unit {0}
Refuses m (error.Invalid kind) = IsFirstInvalid m kind

-- no kind of a lower place applies
abbrev pub Clear : Tree → ℕ → Type 0
Clear m n = (k : InvalidKind) → place k < n → Applies m k → ⊥

-- Of two kinds that are the first, one is the other.
abbrev pub HasOneFirst : Tree → Type 0
HasOneFirst m = (j k : InvalidKind) → IsFirstInvalid m j → IsFirstInvalid m k → j ≡ k
