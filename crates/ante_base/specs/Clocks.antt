-- Clocks in memory.
use Rattle.std.specs.Prelude.{◌≡◌, ℕ, ◌+◌, ◌*◌, ◌^◌, ◌<◌}

-- A clock that counts: its first moment, and by how much the next is later.
pub record Ticks : Type 0 where
  pub start : ℕ
  pub by : ℕ

-- The moment is one of the clock's, and below 2 ^ 63.
abbrev pub IsTick : Ticks → ℕ → Type 0
IsTick clock moment = (ticks : ℕ) × (moment ≡ clock.start + ticks * clock.by) × (moment < 2 ^ 63)
