-- An action that was sent, and what sending it leaves of the run.
use Rattle.std.proofs.Common.{◌≡◌, refl, ap, ◌∙◌, ℕ, ◌/◌, ◌-◌, Bool, true, false, List, [], length, Option, None, Some, Result, Ok, Err}
use Rattle.std.specs.Prelude.{nat_lt, if◌then◌else◌}
use Rattle.ante_pack.specs.Forms.{whole}
use Rattle.ante_pack.specs.declared.fault.PackFault.{PackFault}
use Rattle.ante_types.specs.Chain.{action}
use Rattle.ante_types.specs.declared.chain.Action.{Action}
use Rattle.ante_types.specs.declared.failure.Failure.{Failure}
use Rattle.ante_wmem.specs.HostCalls.{Reply, Outcome, nothing, step_limit}
use Rattle.ante_wmem.specs.Linear.{LinearMemory}
use Rattle.ante_types.specs.Genesis.{eosio}
use Rattle.ante_calls.specs.Accounts.{same_name}
use Rattle.ante_calls.specs.Authorization.{sending_refusal, with_inline, sent, send_inline}
use Rattle.ante_calls.specs.Calls.{range, reading, paying, unless}
use Rattle.ante_calls.specs.Keeping.{Leaving}
use Rattle.ante_calls.specs.Views.{Seen, SysView, said}
use Rattle.ante_execution.specs.Authorities.{check_action}
use Rattle.ante_execution.specs.Hosts.{last_sent, refusal_of, sent_refusal}

-- the mode, and what was said, are as before
abbrev pub Kept : SysView → SysView → Type 0
Kept v w = (w.run.mode ≡ v.run.mode) × (said w.run ≡ said v.run)

module _ (v : SysView) (m : LinearMemory) where
  keeps_unless : (f : Option Failure) (w : SysView) → Kept v w → Leaving (Kept v) (unless f (nothing w m))
  keeps_unless None w kept = kept
  keeps_unless (Some f) w kept = tt

  keeps_sent : (r : Result Action PackFault) → Leaving (Kept v) (sent r v m)
  keeps_sent (Err f) = tt
  keeps_sent (Ok a) = keeps_unless (sending_refusal a v) (record { world = v.world; run = with_inline a v.run }) (refl, refl)

  -- whether the steps are there or not
  keeps_either : (b : Bool) (left : ℕ) (reply : Reply SysView Failure) → Leaving (Kept v) reply →
      Leaving (Kept v) (if◌then◌else◌ {A = Outcome SysView Failure} b (record { reply = step_limit; left = 0 }) (record { reply = reply; left = left })).reply
  keeps_either true left reply kept = tt
  keeps_either false left reply kept = kept

  keeps_reading : (bytes : Option (List ℕ)) (left : ℕ) →
      Leaving (Kept v) (reading bytes left (λ b. paying (length b) left (sent (whole action b) v m))).reply
  keeps_reading None left = tt
  keeps_reading (Some b) left = keeps_either (nat_lt left (length b / 64)) (left - length b / 64) (sent (whole action b) v m) (keeps_sent (whole action b))

  pub keeps_sending : (args : List ℕ) (left : ℕ) → Leaving (Kept v) (send_inline v args m left).reply
  keeps_sending args left = keeps_reading (range 0 args m) left

-- what is sent by another than the system is checked
pub checked_of : (s : Seen) (a : Action) → same_name s.run.receiver eosio ≡ false → last_sent s.run ≡ Some a →
    sent_refusal s ≡ check_action s.world a [] (Some s.run.receiver)
checked_of s a other is =
    ap (λ b. if b then None else refusal_of (last_sent s.run) s) other ∙ ap (λ o. refusal_of o s) is
