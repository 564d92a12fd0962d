-- No code raises the steps left, and a branch has lowered them: so a loop's turns are never too few. A run that its limit ends has none left.
use Rattle.std.proofs.Common.{◌≡◌, ℕ, zero, suc, ◌+◌, ◌<◌, ◌≤◌, Bool, true, false, List, [], ◌∷◌, length, drop, Option, None, Some, Result, Ok, Err, refl, ap, arith}
use Rattle.std.specs.Prelude.{◌==◌, not, nat_le, slice_get}
use Rattle.ante_wmem.specs.Linear.{LinearMemory, may_grow}
use Rattle.ante_wmem.specs.HostCalls.{Reply, value, nothing, exit, refused, step_limit, HostMeaning}
use Rattle.ante_wtree.specs.declared.instructions.ValueKind.{ValueKind}
use Rattle.ante_wtree.specs.declared.modules.FuncType.{FuncType}
use Rattle.ante_wtree.specs.Trees.{Tree}
use Rattle.ante_wtree.specs.Expressions.{Expression, Over, Plain, Block, Loop, If, Br, BrIf, BrTable, Return, Call, CallIndirect, MemoryGrow}
use Rattle.ante_wmeaning.specs.declared.ends.TrapKind.{TrapKind}
use Rattle.ante_wmeaning.specs.declared.ends.RunEnd.{RunEnd}
use Rattle.ante_wmeaning.specs.declared.ends.RunEnd.TheVariants as end
use Rattle.ante_wmeaning.specs.PlainInstructions.{Effect, Next, Traps, NoRule, effect, low}
use Rattle.ante_wmeaning.specs.Environment.{Environment, after_look, after_item, after_call}
use Rattle.ante_wmeaning.specs.Configurations.{FunctionInstance, Own, Given, Missing, Program, State, Outcome, Normal, Branch, Returned, Ended, Lacks, InHost, Stuck, stack_of, on_stack, with_values}
use Rattle.ante_wmeaning.specs.Arities.{arity, gives_none}
use Rattle.ante_wmeaning.specs.Execution.{keep, unwound, returned, only_if, back, taking, grown_by, entered, arguments, due, supplied, pay, seen, step, starts, and_then, of_block, of_loop, of_call, settled, of_effect, turns, chosen, jump_unless, target, pay_pages, grow_if, grow, element, acts, does, of_reply, host_supplied, call_host, of_function, no_frame, call_own, call, invoked}
use Rattle.ante_wmeaning.specs.Instantiation.{segments_fit, program_in, apply_in}
use Rattle.ante_wtree.specs.Limits.{most_frames}
use Rattle.ante_wtree.specs.Types.{masked, result_of}
use Rattle.ante_wmeaning.specs.Invocation.{with_arguments, outset_of, where_fit, start_runs, apply_runs, both_run, run_of}
use Rattle.ante_wmeaning.proofs.Outcomes.{itself, through_then, through_block, through_loop, through_call, through_settled}

-- the limit of steps ends a run where none is left
abbrev pub LimitLeaves : {R : Type 0} → RunEnd R → (left : ℕ) → Type 0
LimitLeaves end.StepLimit left = left ≡ 0
LimitLeaves end.Done left = Unit {0}
LimitLeaves end.Exit left = Unit {0}
LimitLeaves (end.Trap kind) left = Unit {0}
LimitLeaves end.CallDepth left = Unit {0}
LimitLeaves (end.Refused r) left = Unit {0}
LimitLeaves (end.Cut at) left = Unit {0}

weaker : (m n : ℕ) → m < n → m ≤ n
weaker m n lt = omega arith

module _ {W R : Type 0} where
  abbrev pub Lowers : ℕ → Outcome W R → Type 0
  Lowers n (Normal s) = s.left ≤ n
  Lowers n (Branch k s) = s.left < n
  Lowers n (Returned s) = s.left ≤ n
  Lowers n (Ended e s) = LimitLeaves e s.left
  Lowers n (Lacks s) = Unit {0}
  Lowers n (InHost f args a m s) = Unit {0}
  Lowers n Stuck = Unit {0}

  pub lowers_more : (m n : ℕ) → m ≤ n → (o : Outcome W R) → Lowers m o → Lowers n o
  lowers_more m n le (Normal s) h = omega arith
  lowers_more m n le (Branch k s) h = omega arith
  lowers_more m n le (Returned s) h = omega arith
  lowers_more m n le (Ended e s) h = h
  lowers_more m n le (Lacks s) h = tt
  lowers_more m n le (InHost f args a k s) h = tt
  lowers_more m n le Stuck h = tt

  abbrev pub AllLower : (State W → Outcome W R) → Type 0
  AllLower f = (s : State W) → Lowers s.left (f s)

  pub rest_lowers : (f : State W → Outcome W R) → AllLower f → (n : ℕ) (t : State W) → t.left ≤ n → Lowers n (f t)
  rest_lowers f h n t le = lowers_more t.left n le (f t) (h t)

  -- ---- steps

  supplied_lowers : (b : Bool) (n : ℕ) (s : State W) (go : State W → Outcome W R) → ((t : State W) → Lowers n (go t)) → Lowers n (supplied b s go)
  supplied_lowers true n s go h = tt
  supplied_lowers false n s go h = h (record s { environment = after_item s.environment })

  supply_lowers : (b : Bool) (s : State W) (go : State W → Outcome W R) → AllLower go → Lowers s.left (supplied b s go)
  supply_lowers true s go h = tt
  supply_lowers false s go h = h (record s { environment = after_item s.environment })

  pay_lowers : (n : ℕ) (s : State W) (go : State W → Outcome W R) → s.left ≡ n → ((t : State W) → suc t.left ≡ n → Lowers n (go t)) → Lowers n (pay n s go)
  pay_lowers zero s go e h = e
  pay_lowers (suc n) s go e h = supplied_lowers (s.environment.item_lacks s.environment.items) (suc n) s _ (λ t. h (record t { left = n; last = suc n }) refl)

  paid_lowers : (first : State W → Outcome W R) → ((s : State W) → Lowers (suc s.left) (first s)) → (n : ℕ) (t : State W) → suc t.left ≡ n → Lowers n (first t)
  paid_lowers first h n t e = lowers_more (suc t.left) n (omega arith) (first t) (h t)

  seen_lowers : (d : Bool) (answer : Option ℕ) (first : State W → Outcome W R) → ((s : State W) → Lowers (suc s.left) (first s)) → (s : State W) → Lowers s.left (seen d answer s first)
  seen_lowers false answer first h s = pay_lowers s.left s first refl (paid_lowers first h s.left)
  seen_lowers true None first h s = pay_lowers s.left (record s { environment = after_look s.environment }) first refl (paid_lowers first h s.left)
  seen_lowers true (Some at) first h s = tt

  step_lowers : (first : State W → Outcome W R) → ((s : State W) → Lowers (suc s.left) (first s)) → AllLower (λ s. step s first)
  step_lowers first h s = seen_lowers (due s.left s.last) (s.environment.look_answer s.environment.looks) first h s

  pub starts_lowers : (code : Expression) (first : State W → Outcome W R) → ((s : State W) → Lowers (suc s.left) (first s)) → AllLower (starts code first)
  starts_lowers Over first h s = omega arith
  starts_lowers (Plain i rest) first h s = step_lowers first h s
  starts_lowers (Block kind body rest) first h s = step_lowers first h s
  starts_lowers (Loop kind body rest) first h s = step_lowers first h s
  starts_lowers (If kind one two rest) first h s = step_lowers first h s
  starts_lowers (Br n rest) first h s = step_lowers first h s
  starts_lowers (BrIf n rest) first h s = step_lowers first h s
  starts_lowers (BrTable ns n rest) first h s = step_lowers first h s
  starts_lowers (Return rest) first h s = step_lowers first h s
  starts_lowers (Call f rest) first h s = step_lowers first h s
  starts_lowers (CallIndirect t rest) first h s = step_lowers first h s
  starts_lowers (MemoryGrow rest) first h s = step_lowers first h s

  -- ---- what follows an outcome

  only_if_lowers : (b : Bool) (n : ℕ) (o : Outcome W R) → Lowers n o → Lowers n (only_if b o)
  only_if_lowers true n o h = h
  only_if_lowers false n o h = tt

  and_then_lowers : (n : ℕ) (o : Outcome W R) (go : State W → Outcome W R) → Lowers n o → ((t : State W) → t.left ≤ n → Lowers n (go t)) → Lowers n (and_then o go)
  and_then_lowers n o go h g = through_then (Lowers n) (Lowers n) (itself (Lowers n)) o go (λ s le. g s le) (λ k s lt. lt) (λ s le. le) h

  of_block_lowers : (kind : Option ValueKind) (height n : ℕ) (o : Outcome W R) → Lowers n o → Lowers n (of_block kind height o)
  of_block_lowers kind height n o h = through_block (Lowers n) (Lowers n) (itself (Lowers n)) kind height o (λ s le. le)
      (λ s lt. only_if_lowers (nat_le (height + arity kind) (length (stack_of s))) n (Normal (on_stack s (unwound kind height (stack_of s)))) (weaker s.left n lt)) (λ k s lt. lt) (λ s le. le) h

  of_loop_lowers : (height n : ℕ) (o : Outcome W R) (go : State W → Outcome W R) → Lowers n o → ((t : State W) → t.left ≤ n → Lowers n (go t)) → Lowers n (of_loop height o go)
  of_loop_lowers height n o go h g = through_loop (Lowers n) (Lowers n) (itself (Lowers n)) height o go (λ s le. le)
      (λ s lt. only_if_lowers (nat_le height (length (stack_of s))) n (go (on_stack s (keep height (stack_of s)))) (g (on_stack s (keep height (stack_of s))) (weaker s.left n lt))) (λ k s lt. lt) (λ s le. le) h

module _ (W R : Type 0) where
  back_lowers : (kind : Option ValueKind) (locals stack : List ℕ) (n : ℕ) (s : State W) → s.left ≤ n → Lowers {W = W} {R = R} n (back kind locals stack s)
  back_lowers kind locals stack n s le = only_if_lowers (nat_le (arity kind) (length (stack_of s))) n (Normal (returned kind locals stack s)) le

module _ {W R : Type 0} where
  of_call_lowers : (kind : Option ValueKind) (locals stack : List ℕ) (n : ℕ) (o : Outcome W R) → Lowers n o → Lowers n (of_call kind locals stack o)
  of_call_lowers kind locals stack n o h = through_call (Lowers n) (Lowers n) (itself (Lowers n)) kind locals stack o (λ s le. back_lowers W R kind locals stack n s le)
      (λ s lt. back_lowers W R kind locals stack n s (weaker s.left n lt)) (λ k s lt. tt) (λ s le. back_lowers W R kind locals stack n s le) h

  settled_lowers : (n : ℕ) (o : Outcome W R) → Lowers n o → Lowers n (settled o)
  settled_lowers n o h = through_settled (Lowers n) (Lowers n) (itself (Lowers n)) o (λ s le. le) (λ k s lt. tt) (λ s le. tt) h

  of_effect_lowers : (e : Effect) (s : State W) (n : ℕ) (go : State W → Outcome W R) → s.left ≤ n → ((t : State W) → t.left ≤ n → Lowers n (go t)) → Lowers n (of_effect e s go)
  of_effect_lowers (Next v) s n go le g = g (with_values s v) le
  of_effect_lowers (Traps kind) s n go le g = tt
  of_effect_lowers NoRule s n go le g = tt

  taking_lowers : (stack : List ℕ) (s : State W) (n : ℕ) (go : ℕ → State W → Outcome W R) → s.left ≤ n → ((k : ℕ) (t : State W) → t.left ≤ n → Lowers n (go k t)) → Lowers n (taking stack s go)
  taking_lowers [] s n go le g = tt
  taking_lowers (k ∷ below) s n go le g = g k (on_stack s below) le

  turns_lowers : (m : ℕ) (body : State W → Outcome W R) (height : ℕ) → AllLower body → AllLower (turns m body height)
  turns_lowers zero body height h s = tt
  turns_lowers (suc m) body height h s =
      of_loop_lowers height s.left (body s) (turns m body height) (h s) (λ t le. lowers_more t.left s.left le (turns m body height t) (turns_lowers m body height h t))

  chosen_lowers : (b : Bool) (one two : State W → Outcome W R) → AllLower one → AllLower two → AllLower (chosen b one two)
  chosen_lowers true one two g h s = h s
  chosen_lowers false one two g h s = g s

  target_lowers : (r : Option (Result ℕ TrapKind)) (calls : ℕ → State W → Outcome W R) → ((f : ℕ) → AllLower (calls f)) → AllLower (target r calls)
  target_lowers (Some (Ok f)) calls c s = c f s
  target_lowers (Some (Err kind)) calls c s = tt
  target_lowers None calls c s = tt

module _ (W R : Type 0) where
  jump_unless_lowers : (b : Bool) (n m : ℕ) (s : State W) → s.left < m → Lowers {W = W} {R = R} m (jump_unless b n s)
  jump_unless_lowers true n m s lt = omega arith
  jump_unless_lowers false n m s lt = lt

  pay_pages_lowers : (b : Bool) (pages : ℕ) (grown s : State W) → Lowers {W = W} {R = R} s.left (pay_pages b pages grown s)
  pay_pages_lowers true pages grown s = omega arith
  pay_pages_lowers false pages grown s = refl

  grow_if_lowers : (b : Bool) (pages : ℕ) → AllLower {W = W} {R = R} (grow_if b pages)
  grow_if_lowers true pages s = pay_pages_lowers (nat_le pages s.left) pages (grown_by pages s) s
  grow_if_lowers false pages s = omega arith

  grow_lowers : (pages : ℕ) → AllLower {W = W} {R = R} (grow pages)
  grow_lowers pages s = grow_if_lowers (may_grow s.values.memory pages) pages s

module _ {W R : Type 0} (program : Program) (calls : ℕ → State W → Outcome W R) (c : (f : ℕ) → AllLower (calls f)) where
  rest_of : (code : Expression) → AllLower (starts code (acts program calls code)) → (n : ℕ) (t : State W) → t.left ≤ n → Lowers n (starts code (acts program calls code) t)
  rest_of code h n t le = rest_lowers (starts code (acts program calls code)) h n t le

  taking_paid : (stack : List ℕ) (s : State W) (go : ℕ → State W → Outcome W R) → ((k : ℕ) (t : State W) → t.left < suc s.left → Lowers (suc s.left) (go k t)) → Lowers (suc s.left) (taking stack s go)
  taking_paid [] s go g = tt
  taking_paid (k ∷ below) s go g = g k (on_stack s below) (omega arith)

  pub acts_lowers : (code : Expression) (s : State W) → Lowers (suc s.left) (acts program calls code s)
  acts_lowers Over s = omega arith
  acts_lowers (Plain i rest) s =
      let r = starts_lowers rest (acts program calls rest) (acts_lowers rest) in
      of_effect_lowers (effect i s.values) s (suc s.left) _ (omega arith) (rest_of rest r (suc s.left))
  acts_lowers (Block kind body rest) s =
      let r = starts_lowers rest (acts program calls rest) (acts_lowers rest) in
      let b = starts_lowers body (acts program calls body) (acts_lowers body) in
      and_then_lowers (suc s.left) _ _ (of_block_lowers kind (length (stack_of s)) (suc s.left) _ (rest_of body b (suc s.left) s (omega arith))) (rest_of rest r (suc s.left))
  acts_lowers (Loop kind body rest) s =
      let r = starts_lowers rest (acts program calls rest) (acts_lowers rest) in
      let b = starts_lowers body (acts program calls body) (acts_lowers body) in
      and_then_lowers (suc s.left) _ _ (rest_lowers _ (turns_lowers (suc s.left) _ (length (stack_of s)) b) (suc s.left) s (omega arith)) (rest_of rest r (suc s.left))
  acts_lowers (If kind one two rest) s =
      let r = starts_lowers rest (acts program calls rest) (acts_lowers rest) in
      let a = starts_lowers one (acts program calls one) (acts_lowers one) in
      let b = starts_lowers two (acts program calls two) (acts_lowers two) in
      taking_lowers (stack_of s) s (suc s.left) _ (omega arith) (λ test t le. and_then_lowers (suc s.left) _ _
      (of_block_lowers kind (length (stack_of t)) (suc s.left) _ (rest_lowers _ (chosen_lowers (low test == 0) _ _ a b) (suc s.left) t le))
      (rest_of rest r (suc s.left)))
  acts_lowers (Br n rest) s = omega arith
  acts_lowers (BrIf n rest) s =
      let r = starts_lowers rest (acts program calls rest) (acts_lowers rest) in
      taking_paid (stack_of s) s _ (λ test t le. and_then_lowers (suc s.left) _ _ (jump_unless_lowers W R (low test == 0) n (suc s.left) t le) (rest_of rest r (suc s.left)))
  acts_lowers (BrTable ns n rest) s = taking_paid (stack_of s) s _ (λ at t le. le)
  acts_lowers (Return rest) s = omega arith
  acts_lowers (Call f rest) s =
      let r = starts_lowers rest (acts program calls rest) (acts_lowers rest) in
      and_then_lowers (suc s.left) _ _ (rest_lowers (calls f) (c f) (suc s.left) s (omega arith)) (rest_of rest r (suc s.left))
  acts_lowers (CallIndirect wanted rest) s =
      let r = starts_lowers rest (acts program calls rest) (acts_lowers rest) in
      taking_lowers (stack_of s) s (suc s.left) _ (omega arith) (λ at t le. and_then_lowers (suc s.left) _ _
      (rest_lowers _ (target_lowers (element program wanted (low at)) calls c) (suc s.left) t le)
      (rest_of rest r (suc s.left)))
  acts_lowers (MemoryGrow rest) s =
      let r = starts_lowers rest (acts program calls rest) (acts_lowers rest) in
      taking_lowers (stack_of s) s (suc s.left) _ (omega arith) (λ pages t le. and_then_lowers (suc s.left) _ _
      (rest_lowers _ (grow_lowers W R (low pages)) (suc s.left) t le)
      (rest_of rest r (suc s.left)))

  pub does_lowers : (code : Expression) → AllLower (does program calls code)
  does_lowers code = starts_lowers code (acts program calls code) (acts_lowers code)

module _ {W R : Type 0} (host : HostMeaning W R) where
  abbrev pub HostFalls : Type 0
  HostFalls = (w : W) (number : ℕ) (args : List ℕ) (memory : LinearMemory) (left : ℕ) → (host w number args memory left).left ≤ left

module _ {W R : Type 0} where
  of_reply_lowers : (results : List ValueKind) (number : ℕ) (args below : List ℕ) (reply : Reply W R) (left : ℕ) (s : State W) → left ≤ s.left → Lowers s.left (of_reply results number args below reply left s)
  of_reply_lowers results number args below (value n w m) left s le =
      only_if_lowers (not (gives_none results)) s.left (Normal (record s { world = w; left = left; environment = after_call s.environment; values = record s.values { stack = n ∷ below; memory = m } })) le
  of_reply_lowers results number args below (nothing w m) left s le =
      only_if_lowers (gives_none results) s.left (Normal (record s { world = w; left = left; environment = after_call s.environment; values = record s.values { stack = below; memory = m } })) le
  of_reply_lowers results number args below (exit w m) left s le = tt
  of_reply_lowers results number args below (refused r) left s le = tt
  of_reply_lowers results number args below step_limit left s le = tt

  host_supplied_lowers : (b : Bool) (number : ℕ) (args : List ℕ) (go : Outcome W R) (s : State W) → Lowers s.left go → Lowers s.left (host_supplied b number args go s)
  host_supplied_lowers true number args go s h = tt
  host_supplied_lowers false number args go s h = h

  call_host_lowers : (host : HostMeaning W R) → HostFalls host → (kind : FuncType) (number : ℕ) → AllLower (call_host host kind number)
  call_host_lowers host falls kind number s =
      let args = masked kind.params (arguments (length kind.params) (stack_of s)) in
      let outcome = host s.world number args s.values.memory s.left in
      host_supplied_lowers (s.environment.call_lacks s.environment.calls) number args _ s
      (of_reply_lowers kind.results number args (drop (length kind.params) (stack_of s)) outcome.reply outcome.left s (falls s.world number args s.values.memory s.left))

  of_function_lowers : (host : HostMeaning W R) → HostFalls host → (own : FuncType → ℕ → Expression → State W → Outcome W R) → ((kind : FuncType) (locals : ℕ) (body : Expression) → AllLower (own kind locals body)) → (f : Option FunctionInstance) → AllLower (of_function host own f)
  of_function_lowers host falls own h (Some (Own kind locals body)) s = only_if_lowers (nat_le (length kind.params) (length (stack_of s))) s.left _ (h kind locals body s)
  of_function_lowers host falls own h (Some (Given kind number)) s =
      only_if_lowers (nat_le (length kind.params) (length (stack_of s))) s.left _ (call_host_lowers host falls kind number s)
  of_function_lowers host falls own h (Some Missing) s = tt
  of_function_lowers host falls own h None s = tt

  call_own_lowers : (runs : Expression → State W → Outcome W R) → ((code : Expression) → AllLower (runs code)) → (kind : FuncType) (locals : ℕ) (body : Expression) → AllLower (call_own runs kind locals body)
  call_own_lowers runs h kind locals body s = of_call_lowers (result_of kind.results) s.values.locals (drop (length kind.params) (stack_of s)) s.left _ (h body (entered kind locals s))

  pub call_lowers : (host : HostMeaning W R) → HostFalls host → (program : Program) (free f : ℕ) → AllLower (call host program free f)
  call_lowers host falls program zero f s = of_function_lowers host falls no_frame (λ kind locals body s. tt) (slice_get program.functions f) s
  call_lowers host falls program (suc free) f s =
      of_function_lowers host falls (call_own (does program (call host program free)))
      (call_own_lowers (does program (call host program free)) (does_lowers program (call host program free) (call_lowers host falls program free)))
      (slice_get program.functions f) s

  invoked_lowers : (host : HostMeaning W R) → HostFalls host → (program : Program) (free f : ℕ) → AllLower (invoked host program free f)
  invoked_lowers host falls program free f s = supply_lowers (s.environment.item_lacks s.environment.items) s (λ t. settled (call host program free f t))
      (λ t. settled_lowers t.left (call host program free f t) (call_lowers host falls program free f t))

  start_lowers : (host : HostMeaning W R) → HostFalls host → (program : Program) (f : Option ℕ) → AllLower (start_runs host program f)
  start_lowers host falls program None s = omega arith
  start_lowers host falls program (Some f) s = invoked_lowers host falls program most_frames f (with_arguments [] s)

  apply_lowers : (host : HostMeaning W R) → HostFalls host → (program : Program) (f : Option ℕ) (args : List ℕ) → AllLower (apply_runs host program f args)
  apply_lowers host falls program None args s = tt
  apply_lowers host falls program (Some f) args s = invoked_lowers host falls program most_frames f (with_arguments args s)

  both_lowers : (host : HostMeaning W R) → HostFalls host → (m : Tree) (args : List ℕ) → AllLower (both_run host (program_in m) m args)
  both_lowers host falls m args s = and_then_lowers s.left (start_runs host (program_in m) m.start s) (apply_runs host (program_in m) (apply_in m) args) (start_lowers host falls (program_in m) m.start s)
      (λ t le. lowers_more t.left s.left le (apply_runs host (program_in m) (apply_in m) args t) (apply_lowers host falls (program_in m) (apply_in m) args t))

  where_lowers : (b : Bool) (go : State W → Outcome W R) → AllLower go → AllLower (where_fit b go)
  where_lowers true go h s = h s
  where_lowers false go h s = tt

  pub run_lowers : (host : HostMeaning W R) → HostFalls host → (m : Tree) (args : List ℕ) (w : W) (left : ℕ) (environment : Environment) → Lowers left (run_of host m args w left environment)
  run_lowers host falls m args w left environment = supply_lowers (environment.item_lacks environment.items) (outset_of m w left environment) (where_fit (segments_fit m) (both_run host (program_in m) m args))
      (where_lowers (segments_fit m) (both_run host (program_in m) m args) (both_lowers host falls m args))

  -- ---- a loop's turns

  pub turns_enough : (m n : ℕ) (body : State W → Outcome W R) (height : ℕ) → AllLower body → (s : State W) → s.left < m → s.left < n → turns m body height s ≡ turns n body height s
  turns_enough zero n body height h s lt gt = absurd (omega arith)
  turns_enough (suc m) zero body height h s lt gt = absurd (omega arith)
  turns_enough (suc m) (suc n) body height h s lt gt = turn (λ t a b. turns_enough m n body height h t a b) (body s) (h s)
    where
      turn : ((t : State W) → t.left < m → t.left < n → turns m body height t ≡ turns n body height t) → (o : Outcome W R) → Lowers s.left o → of_loop height o (turns m body height) ≡ of_loop height o (turns n body height)
      turn next (Normal t) l = refl
      turn next (Branch zero t) l = ap (only_if (nat_le height (length (stack_of t)))) (next (on_stack t (keep height (stack_of t))) (omega arith) (omega arith))
      turn next (Branch (suc k) t) l = refl
      turn next (Returned t) l = refl
      turn next (Ended e t) l = refl
      turn next (Lacks t) l = refl
      turn next (InHost f args a k t) l = refl
      turn next Stuck l = refl

  -- a loop's first turn, with the later ones counted anew
  pub turns_open : (n : ℕ) (body : State W → Outcome W R) (height : ℕ) → AllLower body → (s : State W) → s.left ≡ n → turns (suc n) body height s ≡ of_loop height (body s) (λ t. turns (suc t.left) body height t)
  turns_open n body height h s e = turn (body s) (h s)
    where
      turn : (o : Outcome W R) → Lowers s.left o → of_loop height o (turns n body height) ≡ of_loop height o (λ t. turns (suc t.left) body height t)
      turn (Normal t) l = refl
      turn (Branch zero t) l = ap (only_if (nat_le height (length (stack_of t)))) (turns_enough n (suc t.left) body height h (on_stack t (keep height (stack_of t))) (omega arith) (omega arith))
      turn (Branch (suc k) t) l = refl
      turn (Returned t) l = refl
      turn (Ended e t) l = refl
      turn (Lacks t) l = refl
      turn (InHost f args a k t) l = refl
      turn Stuck l = refl
