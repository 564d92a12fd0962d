-- What few digits write.
use Rattle.std.proofs.Common.{ℕ, ◌^◌, ◌<◌, arith}
use Rattle.std.proofs.Math.Nat.{pow-le-pow_right}

-- few digits write a small number
pub small : (v i : ℕ) → v < 10 ^ i → i < 18 → v < 10 ^ 17
small v i h k = omega (arith, h, pow-le-pow_right {n = 10} (omega arith) {i = i} {j = 17} (omega arith))
