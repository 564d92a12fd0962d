-- What code does, by its bytes: the module that they encode, whether it is valid, and the run of it that nothing disturbs.
use Rattle.std.specs.Prelude.{◌↔◌, T, ℕ, Bool, List, [], ◌∷◌, codes, Option, None, Some, Result, Ok, Err, if◌then◌else◌}
use Rattle.ante_types.specs.declared.failure.Failure.{Failure}
use Rattle.ante_types.specs.declared.failure.Failure.TheVariants as failure
use Rattle.ante_wmem.specs.declared.host.HostAnswer.{HostAnswer}
use Rattle.ante_wmem.specs.declared.host.HostAnswer.TheVariants as answer
use Rattle.ante_wtree.specs.declared.modules.Limits.{Limits}
use Rattle.ante_wtree.specs.Trees.{Tree}
use Rattle.ante_wdecode.specs.Decoding.{module_at}
use Rattle.ante_wdecode.specs.Rules.{Fault}
use Rattle.ante_wdecode.specs.Sections.{Encodes}
use Rattle.ante_wvalid.specs.Modules.{IsValid}
use Rattle.ante_wmeaning.specs.declared.ends.RunEnd.{RunEnd}
use Rattle.ante_wmeaning.specs.declared.ends.RunEnd.TheVariants as end
use Rattle.ante_wmeaning.specs.declared.ends.TrapKind.{TrapKind}
use Rattle.ante_wmeaning.specs.declared.ends.TrapKind.TheVariants as trap
use Rattle.ante_wmeaning.specs.Configurations.{State, Outcome, Normal, Branch, Returned, Ended, Lacks, InHost, Stuck}
use Rattle.ante_wmeaning.specs.Environment.{undisturbed}
use Rattle.ante_wmeaning.specs.Invocation.{run_of}
use Rattle.ante_calls.specs.Calls.{trapped}
use Rattle.ante_calls.specs.Views.{Seen}
use Rattle.ante_execution.specs.Hosts.{call}
use Rattle.ante_execution.specs.Runs.{Codes, Ran}

-- ---- which codes are accepted: those that encode a valid module

abbrev pub IsAccepted : List ℕ → Type 0
IsAccepted code = (m : Tree) × Encodes m code × IsValid m

-- `accepts` tells these codes from all others
abbrev pub Accepts : (List ℕ → Bool) → Type 0
Accepts accepts = (code : List ℕ) → T (accepts code) ↔ IsAccepted code

-- ---- how a run comes out, by how the interpreter's ends

abbrev pub trap_name : TrapKind → List ℕ
trap_name trap.Unreachable = codes "Unreachable"
trap_name trap.DivZero = codes "DivZero"
trap_name trap.DivOverflow = codes "DivOverflow"
trap_name trap.OutOfBounds = codes "OutOfBounds"
trap_name trap.NoElement = codes "NoElement"
trap_name trap.WrongType = codes "WrongType"

-- A run that nothing disturbs isn't cut.
abbrev pub failure_of : RunEnd Failure → Option Failure
failure_of end.Done = None
failure_of end.Exit = None
failure_of (end.Trap kind) = Some (trapped (trap_name kind))
failure_of end.StepLimit = Some failure.StepLimit
failure_of end.CallDepth = Some failure.CallDepth
failure_of (end.Refused f) = Some f
failure_of (end.Cut at) = None

abbrev pub ended : RunEnd Failure → (left : ℕ) → State Seen → Ran
ended e left s = record { failure = failure_of e; seen = s.world; left = left; looks = s.environment.looks }

-- what is never met of a valid module: no rule applies
abbrev pub never : Seen → Ran
never s = record { failure = Some failure.Abort; seen = s; left = 0; looks = 0 }

-- where a call ended the run, with the steps that it left: it did by one of these two answers
abbrev pub of_answer : HostAnswer Failure → (after : ℕ) → State Seen → Ran
of_answer (answer.Refused f) after s = ended (end.Refused f) after s
of_answer answer.StepLimit after s = ended end.StepLimit 0 s
of_answer (answer.Value n) after s = never s.world
of_answer answer.Nothing after s = never s.world
of_answer answer.Exit after s = never s.world
of_answer answer.OutOfMemory after s = never s.world

abbrev pub of_outcome : Seen → Outcome Seen Failure → Ran
of_outcome s (Normal t) = ended end.Done t.left t
of_outcome s (Ended e t) = ended e t.left t
of_outcome s (InHost number args a after t) = of_answer a after t
of_outcome s (Branch n t) = never s
of_outcome s (Returned t) = never s
of_outcome s (Lacks t) = never s
of_outcome s Stuck = never s

-- ---- codes; one that isn't accepted is never run, for no state has it

-- the pages that the module's memory begins with, if it has one
abbrev pub least_pages : List Limits → ℕ
least_pages [] = 0
least_pages (l ∷ ls) = l.least

abbrev pub pages_of : Result Tree Fault → ℕ
pages_of (Ok m) = least_pages m.memory
pages_of (Err f) = 0

abbrev pub run_by : Result Tree Fault → (args : List ℕ) → Seen → (left : ℕ) → Ran
run_by (Ok m) args s left = of_outcome s (run_of call m args s left undisturbed)
run_by (Err f) args s left = never s

unfoldable pub codes_with : (accepts : List ℕ → Bool) → Codes
codes_with accepts = record {
  accepts = accepts;
  pages = λ code. if accepts code then pages_of (module_at code) else 0;
  runs = λ code args s left. if accepts code then run_by (module_at code) args s left else never s;
}
