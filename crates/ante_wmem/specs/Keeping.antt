-- Hosts that keep their condition.
use Rattle.std.proofs.Common.{◌≡◌, ℕ, List, ◌+◌, ◌-◌, ◌^◌, ◌<◌, Bool, true, false, arith}
use Rattle.std.specs.Prelude.{if◌then◌else◌}
use Rattle.ante_wmem.specs.Linear.{LinearMemory}
use Rattle.ante_wmem.specs.HostCalls.{Reply, Outcome, value, nothing, exit, refused, step_limit, Keeps}

-- one that allows every call
pub always_kept : {W R : Type 0} (allowed : W → ℕ → List ℕ → ℕ → Type 0) → ((w : W) (function : ℕ) (args : List ℕ) (left : ℕ) → allowed w function args left) → (old : W) (before : ℕ) (reply : Reply W R) (after : ℕ) → Keeps allowed old before reply after
always_kept allowed all old before (value n w memory) after = λ f args less lt h. all w f args less
always_kept allowed all old before (nothing w memory) after = λ f args less lt h. all w f args less
always_kept allowed all old before (exit w memory) after = tt
always_kept allowed all old before (refused r) after = tt
always_kept allowed all old before step_limit after = tt

-- one that counts its calls, where the count and the steps left fit, by the cases of what it replies
pub counted : {W : Type 0} (a b c : Bool) (function left : ℕ) (host next : W) (calls : W → ℕ) (memory changed : LinearMemory) → calls next ≡ calls host + 1 → calls host + left < 2 ^ 64 →
    let outcome : Outcome W ℕ = if a then record { reply = step_limit; left = 0 } else (if b then record { reply = value (calls host + 1) next memory; left = left - 1 }
    else (if c then record { reply = nothing host changed; left = left - 1 } else record { reply = refused function; left = left - 1 })) in
    Keeps (λ h f args n. calls h + n < 2 ^ 64) host left outcome.reply outcome.left
counted true b c function left host next calls memory changed e h = tt
counted false true c function left host next calls memory changed e h = λ f args less lt k. omega (arith, e, h, lt)
counted false false true function left host next calls memory changed e h = λ f args less lt k. omega (arith, h, lt)
counted false false false function left host next calls memory changed e h = tt
