-- The integer operations of section 4.3.2 of WebAssembly Core 1.0, under the standard's names, at any width N.
-- An integer of N bits is a number below 2 ^ N. Divisions, which can trap, and comparisons stand in `NumericInstructions`.
use Rattle.std.specs.Prelude.{ℕ, zero, suc, ◌+◌, ◌-◌, ◌*◌, ◌%◌, ◌^◌, min, max, ◌==◌, nat_lt, if◌then◌else◌, List, [], ◌∷◌, ◌++◌, length, reverse, take, drop, replicate, count_by, ℤ, pos, negsuc, ◌-ℤ◌}
use Rattle.std.specs.List.{prefix_len}
use Rattle.std.specs.Int.{bit_at}

-- ---- the two readings of an integer

-- the signed reading: from 2 ^ (N - 1) on an integer stands for itself less 2 ^ N
abbrev pub signed : ℕ → ℕ → ℤ
signed N i = if nat_lt i (2 ^ (N - 1)) then pos i else (pos i -ℤ pos (2 ^ N))

-- the integer of which z is the signed reading
abbrev pub unsigned : ℕ → ℤ → ℕ
unsigned N (pos n) = n
unsigned N (negsuc n) = 2 ^ N - suc n

-- ---- arithmetic modulo 2 ^ N; to take j away is to add 2 ^ N - j

abbrev pub iadd : ℕ → ℕ → ℕ → ℕ
iadd N i j = (i + j) % 2 ^ N

abbrev pub isub : ℕ → ℕ → ℕ → ℕ
isub N i j = (i + (2 ^ N - j)) % 2 ^ N

abbrev pub imul : ℕ → ℕ → ℕ → ℕ
imul N i j = (i * j) % 2 ^ N

-- ---- an integer as a string of bits, the most significant first

-- the N bits of i; bit k is worth 2 ^ k
unfoldable pub ibits : ℕ → ℕ → List ℕ
ibits zero i = []
ibits (suc k) i = bit_at i k ∷ ibits k i

-- the integer with these bits: the sum of what they are worth
unfoldable pub integer : List ℕ → ℕ
integer [] = 0
integer (d ∷ ds) = d * 2 ^ length ds + integer ds

-- two integers joined bit by bit
abbrev pub joined : (ℕ → ℕ → ℕ) → List ℕ → List ℕ → List ℕ
joined f [] ds = []
joined f (c ∷ cs) [] = []
joined f (c ∷ cs) (d ∷ ds) = f c d ∷ joined f cs ds

abbrev pub iand : ℕ → ℕ → ℕ → ℕ
iand N i j = integer (joined min (ibits N i) (ibits N j))

abbrev pub ior : ℕ → ℕ → ℕ → ℕ
ior N i j = integer (joined max (ibits N i) (ibits N j))

-- a bit is set where the two differ
abbrev pub ixor : ℕ → ℕ → ℕ → ℕ
ixor N i j = integer (joined (λ c d. (c + d) % 2) (ibits N i) (ibits N j))

-- shifted to the left by k = j mod N bits: k bits fall out above, and zeros come in below
abbrev pub ishl : ℕ → ℕ → ℕ → ℕ
ishl N i j = let k = j % N in integer (drop k (ibits N i) ++ replicate k 0)

-- shifted to the right by k = j mod N bits: zeros come in above
abbrev pub ishr_u : ℕ → ℕ → ℕ → ℕ
ishr_u N i j = let k = j % N in integer (replicate k 0 ++ take (N - k) (ibits N i))

-- the same, where copies of the most significant bit come in above
abbrev pub ishr_s : ℕ → ℕ → ℕ → ℕ
ishr_s N i j = let k = j % N in integer (replicate k (bit_at i (N - 1)) ++ take (N - k) (ibits N i))

-- rotated by k = j mod N bits: what falls out on one side comes in on the other
abbrev pub irotl : ℕ → ℕ → ℕ → ℕ
irotl N i j = let k = j % N in integer (drop k (ibits N i) ++ take k (ibits N i))

abbrev pub irotr : ℕ → ℕ → ℕ → ℕ
irotr N i j = let k = j % N in integer (drop (N - k) (ibits N i) ++ take (N - k) (ibits N i))

-- how many bits are 0 before the first 1 from the most significant on: all of them at 0
abbrev pub iclz : ℕ → ℕ → ℕ
iclz N i = prefix_len (λ d. d == 0) (ibits N i)

-- the same from the least significant on
abbrev pub ictz : ℕ → ℕ → ℕ
ictz N i = prefix_len (λ d. d == 0) (reverse (ibits N i))

-- how many bits are 1
abbrev pub ipopcnt : ℕ → ℕ → ℕ
ipopcnt N i = count_by (λ d. d == 1) (ibits N i)
