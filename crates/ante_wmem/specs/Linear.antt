-- A linear memory and what its instructions do to it: sections 4.2.8, 4.3.1 and 4.4.4 of WebAssembly Core 1.0.
use Rattle.std.specs.Prelude.{ℕ, zero, suc, ◌+◌, ◌*◌, ◌/◌, ◌%◌, ◌<◌, Bool, ◌||◌, ◌==◌, nat_le, if◌then◌else◌, List, [], ◌∷◌, ◌++◌, length, take, drop, replicate}
use Rattle.ante_wmem.specs.Limits.{page_size}
use Rattle.ante_wmem.specs.declared.Width.{Width}
use Rattle.ante_wmem.specs.declared.Width.TheVariants.{One, Two, Four, Eight}

-- the bytes, of whole pages, and the number of pages that they may grow to at most
pub record LinearMemory : Type 0 where
  pub bytes : List ℕ
  pub most : ℕ

abbrev pub page_count : LinearMemory → ℕ
page_count m = length m.bytes / page_size

-- ---- ranges

-- each byte of the range of `count` bytes from `at` on lies in the memory
abbrev pub IsInside : List ℕ → (at count : ℕ) → Type 0
IsInside bytes at count = (k : ℕ) → k < count → at + k < length bytes

-- the test of that: a range of no bytes lies in every memory
abbrev pub is_inside : List ℕ → (at count : ℕ) → Bool
is_inside bytes at count = count == 0 || nat_le (at + count) (length bytes)

-- the range's bytes
abbrev pub bytes_at : List ℕ → (at count : ℕ) → List ℕ
bytes_at bytes at count = take count (drop at bytes)

-- the memory's bytes with others in place of those from `at` on
abbrev pub overwritten : List ℕ → (at : ℕ) → List ℕ → List ℕ
overwritten bytes at others = take at bytes ++ others ++ drop (at + length others) bytes

-- the memory after that
abbrev pub written : LinearMemory → (at : ℕ) → List ℕ → LinearMemory
written m at others = record m { bytes = overwritten m.bytes at others }

-- ---- numbers as bytes, the lowest byte first

abbrev pub little_endian : List ℕ → ℕ
little_endian [] = 0
little_endian (b ∷ bs) = b + 256 * little_endian bs

-- the lowest `count` bytes of a number
abbrev pub low_bytes : (count value : ℕ) → List ℕ
low_bytes zero value = []
low_bytes (suc count) value = (value % 256) ∷ low_bytes count (value / 256)

abbrev pub byte_count : Width → ℕ
byte_count One = 1
byte_count Two = 2
byte_count Four = 4
byte_count Eight = 8

-- ---- growth

abbrev pub may_grow : LinearMemory → (pages : ℕ) → Bool
may_grow m pages = nat_le (page_count m + pages) m.most

-- the old size in pages, or 2 ^ 32 - 1, which is -1 as an i32, where the memory may not grow
abbrev pub growth_answer : LinearMemory → (pages : ℕ) → ℕ
growth_answer m pages = if may_grow m pages then page_count m else 4294967295

-- the new bytes are 0
abbrev pub grown : LinearMemory → (pages : ℕ) → LinearMemory
grown m pages = if may_grow m pages then record m { bytes = m.bytes ++ replicate (page_size * pages) 0 } else m
