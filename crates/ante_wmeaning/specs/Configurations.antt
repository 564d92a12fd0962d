-- The runtime structure: section 4.2 of WebAssembly Core 1.0. W is the host, R its refusals.
use Rattle.std.specs.Prelude.{ℕ, List, Option}
use Rattle.ante_wmem.specs.declared.host.HostAnswer.{HostAnswer}
use Rattle.ante_wtree.specs.declared.modules.FuncType.{FuncType}
use Rattle.ante_wtree.specs.Expressions.{Expression}
use Rattle.ante_wmeaning.specs.declared.ends.RunEnd.{RunEnd}
use Rattle.ante_wmeaning.specs.PlainInstructions.{Values, with_stack}
use Rattle.ante_wmeaning.specs.Environment.{Environment}

-- ---- a module in a run: the types, its functions in order, the imported ones first, and the table's places

-- an own function with its type, the number of its locals beside the parameters and its body, or one of the host's with
-- its type and its number
pub data FunctionInstance : Type 0 where
  Own : (kind : FuncType) → (locals : ℕ) → (body : Expression) → FunctionInstance
  Given : (kind : FuncType) → (number : ℕ) → FunctionInstance
  Missing : FunctionInstance

pub record Program : Type 0 where
  pub types : List FuncType
  pub functions : List FunctionInstance
  pub table : List (Option ℕ)

-- ---- states and outcomes

pub record State (W : Type 0) : Type 0 where
  pub values : Values
  pub world : W
  pub left : ℕ
  -- what was left before the instruction executed last
  pub last : ℕ
  pub environment : Environment

pub data Outcome (W R : Type 0) : Type 0 where
  Normal : State W → Outcome W R
  -- a branch to the label of this depth
  Branch : ℕ → State W → Outcome W R
  Returned : State W → Outcome W R
  Ended : RunEnd R → State W → Outcome W R
  -- memory was wanted and refused before the next instruction was done
  Lacks : State W → Outcome W R
  -- The host ended the run by this answer: the function, the arguments, the answer, the steps left by it. The state is that of the call.
  InHost : ℕ → List ℕ → HostAnswer R → ℕ → State W → Outcome W R
  -- no rule applies
  Stuck : Outcome W R

module _ {W : Type 0} where
  abbrev pub with_values : State W → Values → State W
  with_values s v = record s { values = v }

  abbrev pub stack_of : State W → List ℕ
  stack_of s = s.values.stack

  abbrev pub on_stack : State W → List ℕ → State W
  on_stack s stack = record s { values = with_stack s.values stack }
