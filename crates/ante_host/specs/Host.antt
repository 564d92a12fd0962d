-- What a call leaves of the host.
use Rattle.std.specs.Prelude.{◌≡◌, ℕ, List, Option}
use Rattle.ante_types.specs.declared.failure.Failure.{Failure}
use Rattle.ante_wmem.specs.Linear.{LinearMemory}
use Rattle.ante_wmem.specs.HostCalls.{IsAnswer}
use Rattle.ante_wmem.specs.declared.host.HostAnswer.{HostAnswer}
use Rattle.ante_wmem.specs.declared.host.HostAnswer.TheVariants as answer
use Rattle.ante_calls.specs.Calls.{map_outcome}
use Rattle.ante_calls.specs.declared.calls.Intrinsic.{Intrinsic}
use Rattle.ante_calls.specs.Numbers.{intrinsic}
use Rattle.ante_calls.specs.Views.{said}
use Rattle.ante_execution.specs.Hosts.{HostView, over, sent_refusal}
use Rattle.ante_host.specs.Sending.{Lets}

-- what a call that goes no further leaves as it was: all but the newest state and what the run has asked for
pub record Unmoved (old new : HostView) : Type 0 where
  pub lists : new.seen.lists ≡ old.seen.lists
  pub mode : new.seen.run.mode ≡ old.seen.run.mode
  pub packed : new.seen.packed ≡ old.seen.packed
  pub said : said new.seen.run ≡ said old.seen.run
  pub base : new.base ≡ old.base
  pub holder : new.holder ≡ old.holder

-- the answer of an intrinsic, before an action that it sent is checked
abbrev pub Answers : Option Intrinsic → (args : List ℕ) → (m : LinearMemory) → (left : ℕ) → HostAnswer Failure → (old new : HostView) → LinearMemory → ℕ → Type 0
Answers c args m left result old new after rest =
    IsAnswer (map_outcome (over old) (intrinsic c old.seen args m left)) (λ a v. Unmoved old v) result new after rest

-- the answer where a call that sent an action lets it be checked
abbrev pub Checked : HostView → (given result : HostAnswer Failure) → Type 0
Checked host answer.Nothing result = Lets (sent_refusal host.seen) result
Checked host (answer.Value n) result = result ≡ answer.Value n
Checked host answer.Exit result = result ≡ answer.Exit
Checked host (answer.Refused f) result = result ≡ answer.Refused f
Checked host answer.StepLimit result = result ≡ answer.StepLimit
Checked host answer.OutOfMemory result = result ≡ answer.OutOfMemory
