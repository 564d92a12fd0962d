-- Counts of faults: an object from outside counts the calls that failed.
use Rattle.std.specs.Prelude.{ℕ, ◌+◌, ◌-◌, ◌^◌, ◌≤◌, min}

-- The count has risen in a call, or it stands at the end of its type.
abbrev pub Rose : ℕ → ℕ → Type 0
Rose before now = min (before + 1) (2 ^ 64 - 1) ≤ now

-- The count never falls, and a call that failed has raised it.
pub record HasCause (before now : ℕ) (HasFailed : Type 0) : Type 0 where
  pub later : before ≤ now
  pub rose : HasFailed → Rose before now
