-- What the check of an action that was sent answers.
use Rattle.std.specs.Prelude.{◌≡◌, Option, None, Some}
use Rattle.ante_types.specs.declared.failure.Failure.{Failure}
use Rattle.ante_wmem.specs.declared.host.HostAnswer.{HostAnswer}
use Rattle.ante_wmem.specs.declared.host.HostAnswer.TheVariants as answer
use Rattle.ante_execution.specs.Answers.{Checks}
use Rattle.ante_execution.specs.declared.ends.AuthFault.{AuthFault}
use Rattle.std.specs.Prelude.{Err}

-- it goes on where there is no refusal, and else it is refused so, or wants memory
abbrev pub Lets : Option Failure → HostAnswer Failure → Type 0
Lets refusal answer.Nothing = refusal ≡ None
Lets refusal (answer.Refused f) = refusal ≡ Some f
Lets refusal answer.OutOfMemory = Unit {0}
Lets refusal (answer.Value n) = ⊥
Lets refusal answer.Exit = ⊥
Lets refusal answer.StepLimit = ⊥

-- the answer that the fault of a check shows as
abbrev pub RefusedBy : AuthFault → HostAnswer Failure → Type 0
RefusedBy fault answer = (refusal : Option Failure) → Checks refusal (Err fault) → Lets refusal answer
