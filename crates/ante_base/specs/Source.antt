-- What one read does, and what many reads have taken. What an object from outside holds is optional: none where it
-- doesn't tell, and then nothing is said of it. The words Consumes, Keeps and IsAtEnd are std's, of its own readers.
use Rattle.std.specs.Prelude.{ℕ, ◌≤◌, List, length, take, Option}
use Rattle.std.specs.Io.KnownBytes.{Consumes, Keeps, IsAtEnd}
use Rattle.ante_base.specs.declared.source.Got.{Got}
use Rattle.ante_base.specs.declared.source.Got.TheVariants.{Bytes, End, Failed}

-- A read gives at least one byte, and no more than the buffer has room for.
abbrev pub CountsWithin : ℕ → Got → Type 0
CountsWithin room (Bytes n) = (1 ≤ n) × (n ≤ room)
CountsWithin room End = Unit {0}
CountsWithin room Failed = Unit {0}

-- A read of n bytes gives the first n that are left and takes them away; at the end nothing is left; no other answer
-- changes what is left.
abbrev pub Reads : Option (List ℕ) → Option (List ℕ) → List ℕ → Got → Type 0
Reads before after buffer (Bytes n) = Consumes before after (take n buffer)
Reads before after buffer End = Keeps before after × IsAtEnd after
Reads before after buffer Failed = Keeps before after

-- one read asks for this many bytes at the most
abbrev pub piece_limit : ℕ
piece_limit = 4096

-- At most so many bytes were taken from the front of what was left.
abbrev pub TakesAtMost : ℕ → Option (List ℕ) → Option (List ℕ) → Type 0
TakesAtMost most before after = (bytes : List ℕ) × (length bytes ≤ most) × Consumes before after bytes
