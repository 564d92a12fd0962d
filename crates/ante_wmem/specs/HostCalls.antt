-- What the interpreter knows of its host: what a call answers and leaves. W is the host, R its refusals.
use Rattle.std.specs.Prelude.{◌≡◌, ℕ, ◌<◌, List}
use Rattle.ante_wmem.specs.Linear.{LinearMemory}
use Rattle.ante_wmem.specs.declared.host.HostAnswer.{HostAnswer}
use Rattle.ante_wmem.specs.declared.host.HostAnswer.TheVariants.{Value, Nothing, Exit, Refused, StepLimit, OutOfMemory}

-- a call's answer, with the host and the memory after it where the run goes on or ends well
pub data Reply (W R : Type 0) : Type 0 where
  value : (number : ℕ) → (host : W) → (memory : LinearMemory) → Reply W R
  nothing : (host : W) → (memory : LinearMemory) → Reply W R
  exit : (host : W) → (memory : LinearMemory) → Reply W R
  refused : (refusal : R) → Reply W R
  step_limit : Reply W R

-- the answer, and the steps that are left after it
pub record Outcome (W R : Type 0) : Type 0 where
  pub reply : Reply W R
  pub left : ℕ

-- a call's outcome, from the host, the function's number, the arguments, the memory and the steps left before it
abbrev pub HostMeaning : Type 0 → Type 0 → Type 0
HostMeaning W R = W → ℕ → List ℕ → LinearMemory → ℕ → Outcome W R

-- what may be called of the old host with `before` steps left may be called of the new one at every number of steps below `after`
abbrev pub StaysAllowed : {W : Type 0} → (W → ℕ → List ℕ → ℕ → Type 0) → (old : W) → (before : ℕ) → (new : W) → (after : ℕ) → Type 0
StaysAllowed allowed old before new after =
    (function : ℕ) (arguments : List ℕ) (less : ℕ) → less < after → allowed old function arguments before → allowed new function arguments less

-- the same of a host that a reply leaves, where the run goes on
abbrev pub Keeps : {W R : Type 0} → (W → ℕ → List ℕ → ℕ → Type 0) → (old : W) → (before : ℕ) → Reply W R → (after : ℕ) → Type 0
Keeps allowed old before (value n host memory) after = StaysAllowed allowed old before host after
Keeps allowed old before (nothing host memory) after = StaysAllowed allowed old before host after
Keeps allowed old before (exit host memory) after = Unit {0}
Keeps allowed old before (refused r) after = Unit {0}
Keeps allowed old before step_limit after = Unit {0}

-- The code answers the outcome or want of memory. After a refusal, StepLimit and want of memory `stands` says what is left of the host.
abbrev pub IsAnswer : {W R : Type 0} → Outcome W R → (stands : HostAnswer R → W → Type 0) → HostAnswer R → W → LinearMemory → ℕ → Type 0
IsAnswer outcome stands (Value n) host memory left = outcome ≡ record { reply = value n host memory; left = left }
IsAnswer outcome stands Nothing host memory left = outcome ≡ record { reply = nothing host memory; left = left }
IsAnswer outcome stands Exit host memory left = outcome ≡ record { reply = exit host memory; left = left }
IsAnswer outcome stands (Refused r) host memory left = (outcome ≡ record { reply = refused r; left = left }) × stands (Refused r) host
IsAnswer outcome stands StepLimit host memory left = (outcome ≡ record { reply = step_limit; left = left }) × stands StepLimit host
IsAnswer outcome stands OutOfMemory host memory left = stands OutOfMemory host
