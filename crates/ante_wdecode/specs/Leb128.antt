-- Integers in LEB128 (section 5.2.2). Their values are words of 64 bits, a negative one in two's complement.
use Rattle.std.specs.Prelude.{◌≡◌, ℕ, ◌+◌, ◌-◌, ◌*◌, ◌%◌, ◌^◌, ◌<◌, ◌≤◌, Bool, true, false, List, [], ◌∷◌, length, Option, None, Some, Result, Ok, Err, nat_lt, if◌then◌else◌}
use Rattle.std.specs.List.{AllByRecursion}
use Rattle.ante_pack.specs.Forms.{◌>>=◌}
use Rattle.ante_wdecode.specs.declared.integers.Misread.{Misread}
use Rattle.ante_wdecode.specs.declared.integers.Misread.TheVariants.{Short, Leb}

-- The value of a last byte, below 128, where a signed or unsigned integer has so many bits left. The bits that the
-- width doesn't have are zero, or those of the sign.
abbrev pub last_value : (signed : Bool) → (bits byte : ℕ) → Option ℕ
last_value false bits byte = if nat_lt byte (2 ^ bits) then Some byte else None
last_value true bits byte =
    if nat_lt byte 64 then (if nat_lt byte (2 ^ (bits - 1)) then Some byte else None)
    else (if nat_lt (2 ^ (bits - 1)) (128 - byte) then None else Some (2 ^ 64 - (128 - byte)))

-- The value of a byte from 128 on and of the bytes after it: its low seven bits, and theirs above.
abbrev pub more_value : (byte high : ℕ) → ℕ
more_value byte high = (byte % 128 + high * 128) % 2 ^ 64

-- These bytes spell the integer n of so many bits.
abbrev pub IsLeb : (signed : Bool) → (bits : ℕ) → List ℕ → ℕ → Type 0
IsLeb signed bits [] n = ⊥
IsLeb signed bits (b ∷ []) n = (b < 128) × (last_value signed bits b ≡ Some n)
IsLeb signed bits (b ∷ c ∷ bytes) n = (128 ≤ b) × (7 < bits) × (high : ℕ) × (n ≡ more_value b high) × IsLeb signed (bits - 7) (c ∷ bytes) high

abbrev pub IsU32 : List ℕ → ℕ → Type 0
IsU32 bytes n = IsLeb false 32 bytes n

-- as its 32 bits
abbrev pub IsS32 : List ℕ → ℕ → Type 0
IsS32 bytes n = (value : ℕ) × IsLeb true 32 bytes value × (n ≡ value % 2 ^ 32)

abbrev pub IsS64 : List ℕ → ℕ → Type 0
IsS64 bytes n = IsLeb true 64 bytes n

-- The bytes end within an integer: each of them asks for more, and there could be more.
abbrev pub IsCut : (bits : ℕ) → List ℕ → Type 0
IsCut bits bytes = (7 * length bytes < bits) × AllByRecursion (λ b. 128 ≤ b) bytes

-- ---- what is read

abbrev pub ends_with : Option ℕ → List ℕ → Result (ℕ × List ℕ) Misread
ends_with None rest = Err Leb
ends_with (Some n) rest = Ok (n, rest)

-- the integer at the front, and the bytes after it
abbrev pub leb_at : (signed : Bool) → (bits : ℕ) → List ℕ → Result (ℕ × List ℕ) Misread
leb_at signed bits [] = Err Short
leb_at signed bits (b ∷ bytes) =
    if nat_lt b 128 then ends_with (last_value signed bits b) bytes
    else (if nat_lt 7 bits then (leb_at signed (bits - 7) bytes >>= λ high. Ok (more_value b high.0, high.1)) else Err Leb)

abbrev pub u32_at : List ℕ → Result (ℕ × List ℕ) Misread
u32_at bytes = leb_at false 32 bytes

abbrev pub s32_at : List ℕ → Result (ℕ × List ℕ) Misread
s32_at bytes = leb_at true 32 bytes >>= λ x. Ok (x.0 % 2 ^ 32, x.1)

abbrev pub s64_at : List ℕ → Result (ℕ × List ℕ) Misread
s64_at bytes = leb_at true 64 bytes

-- What a call answers, seen by view.
abbrev pub seen : {X Y : Type 0} → (X → Y) → Result X Misread → Result Y Misread
seen view (Ok x) = Ok (view x)
seen view (Err e) = Err e
