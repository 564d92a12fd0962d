-- A share that can be split for so many readers.
use Rattle.std.proofs.Common.{ℕ, zero, suc, ◌^◌, ◌≤◌, arith}

some_power : (n : ℕ) → 1 ≤ 2 ^ n
some_power zero = omega arith
some_power (suc n) = let h = some_power n in omega arith

pub two_parts : (n share : ℕ) → 2 ≤ n → 2 ^ n ≤ share → 2 ≤ share
two_parts zero share two le = absurd (omega arith)
two_parts (suc n) share two le = let h = some_power n in omega arith
