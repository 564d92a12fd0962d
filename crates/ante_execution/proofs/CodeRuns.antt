-- Worked examples of runs of code, up to how they come out, with expected values from outside.
use Rattle.std.proofs.Common.{◌≡◌, refl, ℕ, false, List, [], ◌∷◌, None, Some, Ok}
use Rattle.std.specs.Prelude.{codes}
use Rattle.ante_pack.specs.Names.{name_number, number_of}
use Rattle.ante_types.specs.declared.failure.Failure.TheVariants as failure
use Rattle.ante_wtree.specs.declared.instructions.PlainInstr.TheVariants as plain
use Rattle.ante_wtree.specs.declared.instructions.ValueKind.TheVariants.{I64}
use Rattle.ante_wtree.specs.declared.modules.ExportKind.TheVariants as export
use Rattle.ante_wtree.specs.Expressions.{Expression, Over, Plain}
use Rattle.ante_wtree.specs.Limits.{most_frames}
use Rattle.ante_wtree.specs.Trees.{Tree}
use Rattle.ante_wmeaning.specs.declared.ends.TrapKind.TheVariants as trap
use Rattle.ante_calls.specs.Calls.{trapped}
use Rattle.ante_calls.specs.Views.{Seen}
use Rattle.ante_execution.specs.Actions.{first_seen}
use Rattle.ante_execution.specs.Codes.{trap_name, run_by}
use Rattle.ante_execution.specs.Runs.{Ran}
use Rattle.ante_execution.proofs.Causes.{action, world, scene}
use Rattle.ante_execution.proofs.Weights.{named}

-- a module with a memory of two pages, whose `apply` has this body
abbrev tree : Expression → Tree
tree body = record {
  types = record { params = I64 ∷ I64 ∷ I64 ∷ []; results = [] } ∷ [];
  imports = [];
  functions = 0 ∷ [];
  table = [];
  memory = record { least = 2; most = None } ∷ [];
  globals = [];
  exports = record { name = codes "apply"; kind = export.Function; index = 0 } ∷ [];
  start = None;
  elements = [];
  codes = record { locals = []; body = body } ∷ [];
  segments = [];
}

abbrev two : Expression
two = Plain plain.Nop (Plain plain.Nop Over)

abbrev seen : Seen
seen = first_seen scene (action 1) (record { receiver = named 1; notified = false; depth = 0; sender = named 0; creator = 0 }) [] world

abbrev runs : Expression → (left : ℕ) → Ran
runs body left = run_by (Ok (tree body)) (1 ∷ 1 ∷ 0 ∷ []) seen left

abbrev shown : Ran → ℕ × ℕ
shown r = (r.left, r.looks)

-- an instruction takes a step
two_steps : shown (runs two 10) ≡ (8, 0)
unfolding name_number number_of most_frames
two_steps = refl

-- 1,025 steps are two rounds of 1,024 and 1,024 are one: a look before the second instruction
one_look : shown (runs two 1025) ≡ (1023, 1)
unfolding name_number number_of most_frames
one_look = refl

no_steps : (runs two 1).failure ≡ Some failure.StepLimit
unfolding name_number number_of most_frames
no_steps = refl

trapping : (runs (Plain plain.Unreachable Over) 10).failure ≡ Some (trapped (trap_name trap.Unreachable))
unfolding name_number number_of most_frames
trapping = refl
