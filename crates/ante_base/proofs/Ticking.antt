-- How far a clock that counts can go.
use Rattle.std.proofs.Common.{ℕ, ◌*◌, ◌/◌, ◌≤◌, le_trans, mul-le-mul_right}
use Rattle.std.proofs.Math.Nat.{div-mul-le_self}

-- so many ticks fit into the span
pub fit : (ticks by span : ℕ) → ticks ≤ span / by → ticks * by ≤ span
fit ticks by span le = le_trans (mul-le-mul_right by le) (div-mul-le_self span by)
