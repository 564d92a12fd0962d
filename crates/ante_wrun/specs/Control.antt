-- What instructions lead a thread to.
use Rattle.std.specs.Prelude.{◌≡◌, ℕ, zero, suc, ◌<◌, ◌≤◌, map, length, slice_get, Option, None, Some, Result, Ok, Err}
use Rattle.ante_wmem.specs.HostCalls.{HostMeaning}
use Rattle.ante_wtree.specs.declared.modules.FuncType.{FuncType}
use Rattle.ante_wtree.specs.Expressions.{Expression, expression_of}
use Rattle.ante_wmeaning.specs.declared.ends.RunEnd.TheVariants as end
use Rattle.ante_wmeaning.specs.declared.ends.TrapKind.{TrapKind}
use Rattle.ante_wrun.specs.declared.thread.Thread.{Thread}
use Rattle.ante_wrun.specs.declared.control.Function.{Function}
use Rattle.ante_wrun.specs.declared.control.Function.TheVariants as function
use Rattle.ante_wrun.specs.declared.control.Functions.{Functions}
use Rattle.ante_wrun.specs.declared.control.Next.{Next}
use Rattle.ante_wrun.specs.declared.control.Next.TheVariants as next
use Rattle.ante_wmeaning.specs.PlainInstructions.{popped}
use Rattle.ante_wmeaning.specs.Environment.{Environment}
use Rattle.ante_wmeaning.specs.Configurations.{FunctionInstance, Own, Given, Missing, Program, State, Outcome, on_stack}
use Rattle.ante_wmeaning.specs.Execution.{call_host, no_frame, call_own, does, call}
use Rattle.ante_wmeaning.specs.RunEnds.{Stops}
use Rattle.ante_wmeaning.specs.HostConditions.{IsGiven}
use Rattle.ante_wrun.specs.ThreadStates.{state_of, going, after}

abbrev pub instance_of : Function → FunctionInstance
instance_of (function.Own kind locals body) = Own kind.now locals (expression_of body.now)
instance_of (function.Host kind number) = Given kind.now number

abbrev pub program_of : Functions → Program
program_of f = record { types = f.types.now; functions = map instance_of f.all.items; table = f.table.items }

-- ---- what a thread has, so that a rule applies

-- the function takes no more than so many operands
abbrev pub Takes : Option FunctionInstance → ℕ → Type 0
Takes (Some (Own kind locals body)) count = length kind.params ≤ count
Takes (Some (Given kind number)) count = length kind.params ≤ count
Takes (Some Missing) count = ⊥
Takes None count = ⊥

-- what a call by the table leads to takes no more than so many operands
abbrev pub Leaves : Program → Option (Result ℕ TrapKind) → ℕ → Type 0
Leaves program (Some (Ok f)) count = Takes (slice_get program.functions f) count
Leaves program (Some (Err kind)) count = Unit {0}
Leaves program None count = ⊥

abbrev pub NotHostCall : Next → Type 0
NotHostCall next.Go = Unit {0}
NotHostCall (next.Trap kind) = Unit {0}
NotHostCall next.StepLimit = Unit {0}
NotHostCall next.CallDepth = Unit {0}
NotHostCall (next.HostCall kind number) = ⊥

-- a host call is that of the function of this number
abbrev pub GivenAt : Program → ℕ → Next → Type 0
GivenAt program at next.Go = Unit {0}
GivenAt program at (next.Trap kind) = Unit {0}
GivenAt program at next.StepLimit = Unit {0}
GivenAt program at next.CallDepth = Unit {0}
GivenAt program at (next.HostCall kind number) = slice_get program.functions at ≡ Some (Given kind.now number)

module _ {W R : Type 0} (host : HostMeaning W R) (program : Program) where
  -- a call of one of the module's functions where so many frames are free
  abbrev pub own_at : ℕ → FuncType → ℕ → Expression → State W → Outcome W R
  own_at zero = no_frame
  own_at (suc free) = call_own (does program (call host program free))

  abbrev pub Leads : Outcome W R → Next → Thread → W → (left last : ℕ) → Environment → Type 0
  Leads o next.Go t w left last environment = o ≡ going host program t (state_of t.state w left last environment)
  Leads o (next.Trap kind) t w left last environment = Stops (end.Trap kind) w left environment o
  Leads o next.StepLimit t w left last environment = Stops end.StepLimit w 0 environment o × (left ≡ 0)
  Leads o next.CallDepth t w left last environment = Stops end.CallDepth w left environment o
  Leads o (next.HostCall kind number) t w left last environment =
      let s = state_of t.state w left last environment in
      (o ≡ after host program t (call_host host kind.now number (on_stack s (popped s.values.stack)))) × (length kind.now.params < length t.state.values.stack)
      × IsGiven program kind.now number
