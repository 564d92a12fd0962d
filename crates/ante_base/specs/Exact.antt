-- What reading in exact counts gives.
use Rattle.std.specs.Prelude.{◌≡◌, ℕ, ◌<◌, List, length, Option}
use Rattle.std.specs.Io.KnownBytes.{Consumes, IsAtEnd}
use Rattle.ante_base.specs.declared.reading.Exact.{Exact}
use Rattle.ante_base.specs.declared.reading.Exact.TheVariants.{Whole, Ended}

-- Either all the bytes of the count were read, or the input ended before.
abbrev pub ReadsExactly : ℕ → Option (List ℕ) → Option (List ℕ) → Exact → Type 0
ReadsExactly count before after (Whole bytes) = (length bytes.items ≡ count) × Consumes before after bytes.items
ReadsExactly count before after (Ended found) =
    (found < count) × IsAtEnd after × ((bytes : List ℕ) × (length bytes ≡ found) × Consumes before after bytes)

-- how many bytes were taken from the input
abbrev pub taken : Exact → ℕ
taken (Whole bytes) = length bytes.items
taken (Ended found) = found
