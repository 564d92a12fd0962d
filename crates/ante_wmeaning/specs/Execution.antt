-- The meaning of a body: the execution chapter of WebAssembly Core 1.0 (section 4.4) as recursion on the tree, with the
-- steps that are paid, the looks at the stop and the frames that there may be. W is the host, R its refusals. Where the
-- chapter says "due to validation" and it isn't so, the run is stuck; one of a valid module never is.
use Rattle.std.specs.Prelude.{ℕ, zero, suc, ◌+◌, ◌-◌, ◌/◌, Bool, true, false, not, ◌&&◌, ◌==◌, nat_lt, nat_le, Option, None, Some, Result, Ok, Err}
use Rattle.std.specs.Prelude.{List, [], ◌∷◌, ◌++◌, length, take, drop, reverse, replicate, slice_get, slice_index_or}
use Rattle.ante_wmem.specs.Linear.{LinearMemory, may_grow, growth_answer, grown}
use Rattle.ante_wmem.specs.HostCalls.{Reply, value, nothing, exit, refused, step_limit, HostMeaning}
use Rattle.ante_wmem.specs.declared.host.HostAnswer.TheVariants as answer
use Rattle.ante_wtree.specs.declared.instructions.ValueKind.{ValueKind}
use Rattle.ante_wtree.specs.declared.modules.FuncType.{FuncType}
use Rattle.ante_wtree.specs.Expressions.{Expression, Over, Plain, Block, Loop, If, Br, BrIf, BrTable, Return, Call, CallIndirect, MemoryGrow}
use Rattle.ante_wmeaning.specs.declared.ends.TrapKind.{TrapKind}
use Rattle.ante_wmeaning.specs.declared.ends.TrapKind.TheVariants as trap
use Rattle.ante_wmeaning.specs.declared.ends.RunEnd.TheVariants as end
use Rattle.ante_wmeaning.specs.PlainInstructions.{Effect, Next, Traps, NoRule, effect, low}
use Rattle.ante_wtree.specs.Limits.{round_steps}
use Rattle.ante_wtree.specs.Types.{result_of, same_kinds, masked}
use Rattle.ante_wmeaning.specs.Environment.{after_look, after_item, after_call}
use Rattle.ante_wmeaning.specs.Configurations.{FunctionInstance, Own, Given, Missing, Program, State, with_values, stack_of, on_stack}
use Rattle.ante_wmeaning.specs.Configurations.{Outcome, Normal, Branch, Returned, Ended, Lacks, InHost, Stuck}
use Rattle.ante_wmeaning.specs.Arities.{arity, gives_none}

-- the lowest operands, as many as there were at a block's begin
abbrev pub keep : (height : ℕ) → List ℕ → List ℕ
keep height stack = drop (length stack - height) stack

-- what a branch to a block's label leaves: the block's results from the top, on the operands that were there before
abbrev pub unwound : Option ValueKind → (height : ℕ) → List ℕ → List ℕ
unwound kind height stack = take (arity kind) stack ++ keep height (drop (arity kind) stack)

-- the arguments, the first one first
abbrev pub arguments : (count : ℕ) → List ℕ → List ℕ
arguments count stack = reverse (take count stack)

module _ {W : Type 0} where
  -- The caller's locals and operands, with the function's result on top of these.
  abbrev pub returned : Option ValueKind → (locals stack : List ℕ) → State W → State W
  returned kind locals stack s = record s { values = record s.values { locals = locals; stack = take (arity kind) (stack_of s) ++ stack } }

  -- the old size goes onto the operands, or -1 where the memory may not grow
  abbrev pub grown_by : (pages : ℕ) → State W → State W
  grown_by pages s = record s { values = record s.values { stack = growth_answer s.values.memory pages ∷ stack_of s; memory = grown s.values.memory pages } }

  -- the state in which a body begins: the arguments and zeros as locals, and no operands
  abbrev pub entered : FuncType → (locals : ℕ) → State W → State W
  entered kind locals s = record s { values = record s.values { locals = arguments (length kind.params) (stack_of s) ++ replicate locals 0; stack = [] } }

-- ---- steps and looks, in one place before every instruction

-- a look is due each time that the steps left, in rounds of `round_steps`, have come into a lower round
abbrev pub round : ℕ → ℕ
round left = (left + (round_steps - 1)) / round_steps

abbrev pub due : (left last : ℕ) → Bool
due left last = nat_lt (round left) (round last)

module _ {W R : Type 0} where
  abbrev pub supplied : Bool → State W → (State W → Outcome W R) → Outcome W R
  supplied true s go = Lacks s
  supplied false s go = go (record s { environment = after_item s.environment })

  abbrev pub pay : ℕ → State W → (State W → Outcome W R) → Outcome W R
  pay zero s go = Ended end.StepLimit s
  pay (suc n) s go = supplied (s.environment.item_lacks s.environment.items) s (λ t. go (record t { left = n; last = suc n }))

  abbrev pub seen : Bool → Option ℕ → State W → (State W → Outcome W R) → Outcome W R
  seen false answer s go = pay s.left s go
  seen true None s go = pay s.left (record s { environment = after_look s.environment }) go
  seen true (Some at) s go = Ended (end.Cut at) (record s { environment = after_look s.environment })

  abbrev pub step : State W → (State W → Outcome W R) → Outcome W R
  step s go = seen (due s.left s.last) (s.environment.look_answer s.environment.looks) s go

  -- code that isn't over begins with an instruction, which takes a step
  abbrev pub starts : Expression → (State W → Outcome W R) → State W → Outcome W R
  starts Over first s = Normal s
  starts (Plain i rest) first s = step s first
  starts (Block kind body rest) first s = step s first
  starts (Loop kind body rest) first s = step s first
  starts (If kind one two rest) first s = step s first
  starts (Br n rest) first s = step s first
  starts (BrIf n rest) first s = step s first
  starts (BrTable ns n rest) first s = step s first
  starts (Return rest) first s = step s first
  starts (Call f rest) first s = step s first
  starts (CallIndirect t rest) first s = step s first
  starts (MemoryGrow rest) first s = step s first

  -- ---- what follows an outcome

  -- without this no rule applies
  abbrev pub only_if : Bool → Outcome W R → Outcome W R
  only_if true o = o
  only_if false o = Stuck

  abbrev pub and_then : Outcome W R → (State W → Outcome W R) → Outcome W R
  and_then (Normal s) go = go s
  and_then (Branch n s) go = Branch n s
  and_then (Returned s) go = Returned s
  and_then (Ended e s) go = Ended e s
  and_then (Lacks s) go = Lacks s
  and_then (InHost f args a n s) go = InHost f args a n s
  and_then Stuck go = Stuck

  -- A branch to a block's label goes on after the block, with the block's results. The operands that were there before the
  -- block lie below; typed bodies take none of them.
  abbrev pub of_block : Option ValueKind → (height : ℕ) → Outcome W R → Outcome W R
  of_block kind height (Normal s) = Normal s
  of_block kind height (Branch zero s) = only_if (nat_le (height + arity kind) (length (stack_of s))) (Normal (on_stack s (unwound kind height (stack_of s))))
  of_block kind height (Branch (suc n) s) = Branch n s
  of_block kind height (Returned s) = Returned s
  of_block kind height (Ended e s) = Ended e s
  of_block kind height (Lacks s) = Lacks s
  of_block kind height (InHost f args a n s) = InHost f args a n s
  of_block kind height Stuck = Stuck

  -- a branch to a loop's label begins its body again
  abbrev pub of_loop : (height : ℕ) → Outcome W R → (State W → Outcome W R) → Outcome W R
  of_loop height (Normal s) again = Normal s
  of_loop height (Branch zero s) again = only_if (nat_le height (length (stack_of s))) (again (on_stack s (keep height (stack_of s))))
  of_loop height (Branch (suc n) s) again = Branch n s
  of_loop height (Returned s) again = Returned s
  of_loop height (Ended e s) again = Ended e s
  of_loop height (Lacks s) again = Lacks s
  of_loop height (InHost f args a n s) again = InHost f args a n s
  of_loop height Stuck again = Stuck

  -- the results are on top of the operands
  abbrev pub back : Option ValueKind → (locals stack : List ℕ) → State W → Outcome W R
  back kind locals stack s = only_if (nat_le (arity kind) (length (stack_of s))) (Normal (returned kind locals stack s))

  -- a branch out of a function's body returns
  abbrev pub of_call : Option ValueKind → (locals stack : List ℕ) → Outcome W R → Outcome W R
  of_call kind locals stack (Normal s) = back kind locals stack s
  of_call kind locals stack (Branch zero s) = back kind locals stack s
  of_call kind locals stack (Branch (suc n) s) = Stuck
  of_call kind locals stack (Returned s) = back kind locals stack s
  of_call kind locals stack (Ended e s) = Ended e s
  of_call kind locals stack (Lacks s) = Lacks s
  of_call kind locals stack (InHost f args a n s) = InHost f args a n s
  of_call kind locals stack Stuck = Stuck

  -- nothing is around the function that is invoked from outside
  abbrev pub settled : Outcome W R → Outcome W R
  settled (Normal s) = Normal s
  settled (Branch n s) = Stuck
  settled (Returned s) = Stuck
  settled (Ended e s) = Ended e s
  settled (Lacks s) = Lacks s
  settled (InHost f args a n s) = InHost f args a n s
  settled Stuck = Stuck

  abbrev pub of_effect : Effect → State W → (State W → Outcome W R) → Outcome W R
  of_effect (Next v) s go = go (with_values s v)
  of_effect (Traps kind) s go = Ended (end.Trap kind) s
  of_effect NoRule s go = Stuck

  -- ---- control instructions

  -- the topmost operand is taken off
  abbrev pub taking : List ℕ → State W → (ℕ → State W → Outcome W R) → Outcome W R
  taking [] s go = Stuck
  taking (n ∷ below) s go = go n (on_stack s below)

  abbrev pub take_one : State W → (ℕ → State W → Outcome W R) → Outcome W R
  take_one s go = taking (stack_of s) s go

  -- At most so many turns. A branch back to a loop has taken a step, so a run never comes past as many turns as it has steps, and one.
  abbrev pub turns : ℕ → (State W → Outcome W R) → (height : ℕ) → State W → Outcome W R
  turns zero body height s = Stuck
  turns (suc n) body height s = of_loop height (body s) (turns n body height)

  -- the second where the condition is 0
  abbrev pub chosen : Bool → (one two : State W → Outcome W R) → State W → Outcome W R
  chosen true one two s = two s
  chosen false one two s = one s

  abbrev pub jump_unless : Bool → ℕ → State W → Outcome W R
  jump_unless true n s = Normal s
  jump_unless false n s = Branch n s

  abbrev pub target : Option (Result ℕ TrapKind) → (ℕ → State W → Outcome W R) → State W → Outcome W R
  target (Some (Ok f)) calls s = calls f s
  target (Some (Err kind)) calls s = Ended (end.Trap kind) s
  target None calls s = Stuck

  -- the pages are paid once it is known that the memory may grow
  abbrev pub pay_pages : Bool → (pages : ℕ) → (grown : State W) → State W → Outcome W R
  pay_pages true pages grown s = Normal (record grown { left = s.left - pages })
  pay_pages false pages grown s = Ended end.StepLimit (record s { left = 0 })

  abbrev pub grow_if : Bool → (pages : ℕ) → State W → Outcome W R
  grow_if false pages s = Normal (grown_by pages s)
  grow_if true pages s = pay_pages (nat_le pages s.left) pages (grown_by pages s) s

  abbrev pub grow : (pages : ℕ) → State W → Outcome W R
  grow pages s = grow_if (may_grow s.values.memory pages) pages s

-- ---- call_indirect

-- whether the function is of this type
abbrev pub is_of : FunctionInstance → FuncType → Bool
is_of (Own kind locals body) wanted = same_kinds kind.params wanted.params && same_kinds kind.results wanted.results
is_of (Given kind number) wanted = same_kinds kind.params wanted.params && same_kinds kind.results wanted.results
is_of Missing wanted = false

abbrev pub of_type : Bool → ℕ → Result ℕ TrapKind
of_type true f = Ok f
of_type false f = Err trap.WrongType

abbrev pub checked : Option FunctionInstance → Option FuncType → ℕ → Option (Result ℕ TrapKind)
checked (Some function) (Some wanted) f = Some (of_type (is_of function wanted) f)
checked (Some function) None f = None
checked None wanted f = None

abbrev pub of_place : Program → (wanted : ℕ) → Option (Option ℕ) → Option (Result ℕ TrapKind)
of_place program wanted (Some (Some f)) = checked (slice_get program.functions f) (slice_get program.types wanted) f
of_place program wanted (Some None) = Some (Err trap.NoElement)
of_place program wanted None = Some (Err trap.NoElement)

-- The function that the table has at a place, if it is of the type that is named. None: there is no such type, or no
-- such function.
abbrev pub element : Program → (wanted at : ℕ) → Option (Result ℕ TrapKind)
element program wanted at = of_place program wanted (slice_get program.table at)

-- ---- a body, with what a call does as a parameter

module _ {W R : Type 0} (program : Program) (calls : ℕ → State W → Outcome W R) where
  -- what the first instruction does, whose step is paid, and then the rest
  abbrev pub acts : Expression → State W → Outcome W R
  acts Over s = Normal s
  acts (Plain i rest) s = of_effect (effect i s.values) s (starts rest (acts rest))
  acts (Block kind body rest) s = and_then (of_block kind (length (stack_of s)) (starts body (acts body) s)) (starts rest (acts rest))
  acts (Loop kind body rest) s = and_then (turns (suc s.left) (starts body (acts body)) (length (stack_of s)) s) (starts rest (acts rest))
  acts (If kind one two rest) s = take_one s (λ test t. and_then
      (of_block kind (length (stack_of t)) (chosen (low test == 0) (starts one (acts one)) (starts two (acts two)) t)) (starts rest (acts rest)))
  acts (Br n rest) s = Branch n s
  acts (BrIf n rest) s = take_one s (λ test t. and_then (jump_unless (low test == 0) n t) (starts rest (acts rest)))
  acts (BrTable ns n rest) s = take_one s (λ at t. Branch (slice_index_or ns (low at) n) t)
  acts (Return rest) s = Returned s
  acts (Call f rest) s = and_then (calls f s) (starts rest (acts rest))
  acts (CallIndirect wanted rest) s = take_one s (λ at t. and_then (target (element program wanted (low at)) calls t) (starts rest (acts rest)))
  acts (MemoryGrow rest) s = take_one s (λ pages t. and_then (grow (low pages) t) (starts rest (acts rest)))

  abbrev pub does : Expression → State W → Outcome W R
  does code s = starts code (acts code) s

-- ---- calls

module _ {W : Type 0} where
  -- a host call had the memory that it wanted
  abbrev pub call_supplied : State W → State W
  call_supplied s = record s { environment = after_call s.environment }

  -- what the host leaves, with these operands
  abbrev pub after_host : (stack : List ℕ) → W → LinearMemory → (left : ℕ) → State W → State W
  after_host stack w m left s =
      record s { world = w; left = left; environment = after_call s.environment; values = record s.values { stack = stack; memory = m } }

module _ {W R : Type 0} where
  -- A function with a result is answered a value, and one without is answered none.
  abbrev pub of_reply : (results : List ValueKind) → (number : ℕ) → (arguments : List ℕ) → (below : List ℕ) → Reply W R → (left : ℕ) → State W → Outcome W R
  of_reply results number arguments below (value n w m) left s = only_if (not (gives_none results)) (Normal (after_host (n ∷ below) w m left s))
  of_reply results number arguments below (nothing w m) left s = only_if (gives_none results) (Normal (after_host below w m left s))
  of_reply results number arguments below (exit w m) left s = Ended end.Exit (after_host below w m left s)
  of_reply results number arguments below (refused r) left s = InHost number arguments (answer.Refused r) left (call_supplied s)
  of_reply results number arguments below step_limit left s = InHost number arguments answer.StepLimit left (call_supplied s)

  abbrev pub host_supplied : Bool → (number : ℕ) → (arguments : List ℕ) → Outcome W R → State W → Outcome W R
  host_supplied true number arguments go s = InHost number arguments answer.OutOfMemory s.left s
  host_supplied false number arguments go s = go

  abbrev pub call_host : HostMeaning W R → FuncType → (number : ℕ) → State W → Outcome W R
  call_host host kind number s =
      let count = length kind.params in
      let args = masked kind.params (arguments count (stack_of s)) in
      let outcome = host s.world number args s.values.memory s.left in
      host_supplied (s.environment.call_lacks s.environment.calls) number args
      (of_reply kind.results number args (drop count (stack_of s)) outcome.reply outcome.left s) s

  abbrev pub of_function : HostMeaning W R → (own : FuncType → ℕ → Expression → State W → Outcome W R) → Option FunctionInstance → State W → Outcome W R
  of_function host own (Some (Own kind locals body)) s = only_if (nat_le (length kind.params) (length (stack_of s))) (own kind locals body s)
  of_function host own (Some (Given kind number)) s = only_if (nat_le (length kind.params) (length (stack_of s))) (call_host host kind number s)
  of_function host own (Some Missing) s = Stuck
  of_function host own None s = Stuck

  abbrev pub no_frame : FuncType → ℕ → Expression → State W → Outcome W R
  no_frame kind locals body s = Ended end.CallDepth s

  abbrev pub call_own : (Expression → State W → Outcome W R) → FuncType → ℕ → Expression → State W → Outcome W R
  call_own runs kind locals body s =
      of_call (result_of kind.results) s.values.locals (drop (length kind.params) (stack_of s)) (runs body (entered kind locals s))

module _ {W R : Type 0} (host : HostMeaning W R) (program : Program) where
  -- a call of the function of this number where so many frames are free
  abbrev pub call : (free : ℕ) → ℕ → State W → Outcome W R
  call zero f s = of_function host no_frame (slice_get program.functions f) s
  call (suc free) f s = of_function host (call_own (does program (call free))) (slice_get program.functions f) s

  -- a call from outside, for which memory may be wanted as for an instruction
  abbrev pub invoked : (free : ℕ) → ℕ → State W → Outcome W R
  invoked free f s = supplied (s.environment.item_lacks s.environment.items) s (λ t. settled (call free f t))
