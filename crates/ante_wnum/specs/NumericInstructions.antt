-- What each integer instruction gives at the width N: sections 4.3.2 and 4.4.1 of WebAssembly Core 1.0.
use Rattle.std.specs.Prelude.{ℕ, ◌-◌, ◌*◌, ◌/◌, ◌^◌, Bool, true, false, not, ◌==◌, nat_lt, nat_le, if◌then◌else◌, pos, ◌-ℤ◌, ◌*ℤ◌, int_lt, int_le, int_div, Result, Ok, Err}
use Rattle.ante_wnum.specs.Numerics.{signed, unsigned, iadd, isub, imul, iand, ior, ixor, ishl, ishr_u, ishr_s, irotl, irotr, iclz, ictz, ipopcnt}
use Rattle.ante_wnum.specs.declared.Unary.{Unary}
use Rattle.ante_wnum.specs.declared.Unary.TheVariants.{Clz, Ctz, Popcnt}
use Rattle.ante_wnum.specs.declared.Binary.{Binary}
use Rattle.ante_wnum.specs.declared.Binary.TheVariants.{Add, Sub, Mul, DivS, DivU, RemS, RemU, And, Or, Xor, Shl, ShrS, ShrU, Rotl, Rotr}
use Rattle.ante_wnum.specs.declared.Compare.{Compare}
use Rattle.ante_wnum.specs.declared.Compare.TheVariants.{Eq, Ne, LtS, LtU, GtS, GtU, LeS, LeU, GeS, GeU}
use Rattle.ante_wnum.specs.declared.NumTrap.{NumTrap}
use Rattle.ante_wnum.specs.declared.NumTrap.TheVariants.{DivZero, DivOverflow}

abbrev pub unary_of : ℕ → Unary → ℕ → ℕ
unary_of N Clz i = iclz N i
unary_of N Ctz i = ictz N i
unary_of N Popcnt i = ipopcnt N i

-- ---- division: `/` and `int_div` drop the fraction, which is to round toward zero

abbrev pub idiv_u : ℕ → ℕ → Result ℕ NumTrap
idiv_u i j = if j == 0 then Err DivZero else Ok (i / j)

abbrev pub irem_u : ℕ → ℕ → Result ℕ NumTrap
irem_u i j = if j == 0 then Err DivZero else Ok (i - j * (i / j))

-- a quotient of 2 ^ (N - 1) is no signed reading of N bits
abbrev pub idiv_s : ℕ → ℕ → ℕ → Result ℕ NumTrap
idiv_s N i j =
    let quotient = int_div (signed N i) (signed N j) in
    if j == 0 then Err DivZero else (if int_lt quotient (pos (2 ^ (N - 1))) then Ok (unsigned N quotient) else Err DivOverflow)

abbrev pub irem_s : ℕ → ℕ → ℕ → Result ℕ NumTrap
irem_s N i j =
    let quotient = int_div (signed N i) (signed N j) in
    if j == 0 then Err DivZero else Ok (unsigned N (signed N i -ℤ signed N j *ℤ quotient))

abbrev pub binary_of : ℕ → Binary → ℕ → ℕ → Result ℕ NumTrap
binary_of N Add i j = Ok (iadd N i j)
binary_of N Sub i j = Ok (isub N i j)
binary_of N Mul i j = Ok (imul N i j)
binary_of N DivS i j = idiv_s N i j
binary_of N DivU i j = idiv_u i j
binary_of N RemS i j = irem_s N i j
binary_of N RemU i j = irem_u i j
binary_of N And i j = Ok (iand N i j)
binary_of N Or i j = Ok (ior N i j)
binary_of N Xor i j = Ok (ixor N i j)
binary_of N Shl i j = Ok (ishl N i j)
binary_of N ShrS i j = Ok (ishr_s N i j)
binary_of N ShrU i j = Ok (ishr_u N i j)
binary_of N Rotl i j = Ok (irotl N i j)
binary_of N Rotr i j = Ok (irotr N i j)

-- the instructions that trap at the divisor 0
abbrev pub divides : Binary → Bool
divides DivS = true
divides DivU = true
divides RemS = true
divides RemU = true
divides op = false

-- ---- comparisons, `S` of the signed readings and `U` of the integers

abbrev pub holds : ℕ → Compare → ℕ → ℕ → Bool
holds N Eq i j = i == j
holds N Ne i j = not (i == j)
holds N LtS i j = int_lt (signed N i) (signed N j)
holds N LtU i j = nat_lt i j
holds N GtS i j = int_lt (signed N j) (signed N i)
holds N GtU i j = nat_lt j i
holds N LeS i j = int_le (signed N i) (signed N j)
holds N LeU i j = nat_le i j
holds N GeS i j = int_le (signed N j) (signed N i)
holds N GeU i j = nat_le j i

-- 1 where the comparison holds, and else 0
abbrev pub compare_of : ℕ → Compare → ℕ → ℕ → ℕ
compare_of N op i j = if holds N op i j then 1 else 0
