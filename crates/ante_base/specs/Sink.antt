-- What one write does, and what many writes have added. The words Appends and Keeps are std's, of its own writers.
use Rattle.std.specs.Prelude.{◌≡◌, ℕ, ◌≤◌, List, ◌++◌, length, take, Option}
use Rattle.std.specs.Io.KnownBytes.{Appends, Keeps}
use Rattle.ante_base.specs.declared.sink.Put.{Put}
use Rattle.ante_base.specs.declared.sink.Put.TheVariants.{Wrote, Failed}

-- A write of n bytes adds the first n of the buffer, at least one; a write that failed adds nothing.
abbrev pub Writes : Option (List ℕ) → Option (List ℕ) → List ℕ → Put → Type 0
Writes before after bytes (Wrote n) = (1 ≤ n) × (n ≤ length bytes) × Appends before after (take n bytes)
Writes before after bytes Failed = Keeps before after

-- What was written has grown by a front of these bytes, the whole of them at the most.
abbrev pub AppendsFront : Option (List ℕ) → Option (List ℕ) → List ℕ → Type 0
AppendsFront before after bytes = (front : List ℕ) × (rest : List ℕ) × (bytes ≡ front ++ rest) × Appends before after front
