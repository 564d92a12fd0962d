-- From what a call replies to the bytes that it found, to what its definition replies.
use Rattle.std.proofs.Common.{◌≡◌, sym, subst, ℕ, ◌-◌, ◌/◌, Bool, false, nat_lt, List, length, Option, Some}
use Rattle.std.specs.Prelude.{if◌then◌else◌}
use Rattle.ante_types.specs.declared.failure.Failure.{Failure}
use Rattle.ante_wmem.specs.Linear.{LinearMemory}
use Rattle.ante_wmem.specs.declared.host.HostAnswer.{HostAnswer}
use Rattle.ante_wmem.specs.HostCalls.{Reply, step_limit}
use Rattle.ante_calls.specs.Calls.{reading, paying, replies}
use Rattle.ante_calls.specs.Views.{SysView}
use Rattle.ante_sysapi.specs.Answers.{Answers}

pub read_shown : (found : Option (List ℕ)) (bytes : List ℕ) (go : List ℕ → SysView → Reply SysView Failure) (result : HostAnswer Failure) (v w : SysView)
    (m : LinearMemory) (left : ℕ) → found ≡ Some bytes → Answers (λ x. replies (go bytes x) left) result v w m left →
    Answers (λ x. reading found left (λ b. replies (go b x) left)) result v w m left
read_shown found bytes go result v w m left is h =
    subst (λ o. Answers (λ x. reading o left (λ b. replies (go b x) left)) result v w m left) (sym is) h

-- the bytes are paid
pub paid_shown : (found : Option (List ℕ)) (bytes : List ℕ) (left after : ℕ) (go : List ℕ → SysView → Reply SysView Failure) (result : HostAnswer Failure)
    (v w : SysView) (m : LinearMemory) → found ≡ Some bytes → nat_lt left (length bytes / 64) ≡ false → after ≡ left - length bytes / 64 →
    Answers (λ x. replies (go bytes x) after) result v w m after →
    Answers (λ x. reading found left (λ b. paying (length b) left (go b x))) result v w m after
paid_shown found bytes left after go result v w m is enough paid h =
    subst (λ o. Answers (λ x. reading o left (λ b. paying (length b) left (go b x))) result v w m after) (sym is)
    (subst (λ (b : Bool). Answers (λ x. if b then record { reply = step_limit; left = 0 } else record { reply = go bytes x; left = left - length bytes / 64 }) result v w m after) (sym enough)
    (subst (λ (n : ℕ). Answers (λ x. record { reply = go bytes x; left = n }) result v w m after) paid h))
