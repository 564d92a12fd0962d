-- A look that asks ends the run, by a cut at its moment: so every look of a run answered that it may go on, but the last one of a run that is cut.
use Rattle.std.proofs.Common.{◌≡◌, ℕ, zero, suc, ◌+◌, ◌<◌, ◌≤◌, Bool, true, false, List, [], ◌∷◌, length, drop, Option, None, Some, Result, Ok, Err, refl, subst, ⊎_elim, arith}
use Rattle.std.specs.Prelude.{◌==◌, not, nat_le, slice_get}
use Rattle.std.proofs.lemmas.Bool.{cases_lt}
use Rattle.ante_wmem.specs.Linear.{may_grow}
use Rattle.ante_wmem.specs.HostCalls.{Reply, value, nothing, exit, refused, step_limit, HostMeaning}
use Rattle.ante_wtree.specs.declared.instructions.ValueKind.{ValueKind}
use Rattle.ante_wtree.specs.declared.modules.FuncType.{FuncType}
use Rattle.ante_wtree.specs.Expressions.{Expression, Over, Plain, Block, Loop, If, Br, BrIf, BrTable, Return, Call, CallIndirect, MemoryGrow}
use Rattle.ante_wtree.specs.Trees.{Tree}
use Rattle.ante_wmeaning.specs.declared.ends.TrapKind.{TrapKind}
use Rattle.ante_wmeaning.specs.declared.ends.RunEnd.{RunEnd}
use Rattle.ante_wmeaning.specs.declared.ends.RunEnd.TheVariants as end
use Rattle.ante_wmeaning.specs.PlainInstructions.{Effect, Next, Traps, NoRule, effect, low}
use Rattle.ante_wmeaning.specs.Environment.{Environment, after_look, after_item, after_call}
use Rattle.ante_wmeaning.specs.Configurations.{FunctionInstance, Own, Given, Missing, Program, State, Outcome, Normal, Branch, Returned, Ended, Lacks, InHost, Stuck, stack_of, on_stack, with_values}
use Rattle.ante_wmeaning.specs.Arities.{arity, gives_none}
use Rattle.ante_wmeaning.specs.Execution.{keep, unwound, returned, only_if, back, taking, grown_by, entered, arguments, due, supplied, pay, seen, step, starts, and_then, of_block, of_loop, of_call, settled, of_effect, turns, chosen, jump_unless, target, pay_pages, grow_if, grow, element, acts, does, of_reply, host_supplied, call_host, of_function, no_frame, call_own, call, invoked}
use Rattle.ante_wmeaning.specs.Instantiation.{segments_fit, program_in, apply_in}
use Rattle.ante_wtree.specs.Limits.{most_frames}
use Rattle.ante_wtree.specs.Types.{masked, result_of}
use Rattle.ante_wmeaning.specs.Invocation.{with_arguments, outset_of, where_fit, start_runs, apply_runs, both_run, run_of}
use Rattle.ante_wmeaning.proofs.Outcomes.{itself, through_then, through_block, through_loop, through_call, through_settled}

-- the first so many looks answered that the run may go on
abbrev pub Unasked : Environment → (count : ℕ) → Type 0
Unasked e count = (k : ℕ) → k < count → e.look_answer k ≡ None

pub none_yet : (e : Environment) → e.looks ≡ 0 → Unasked e e.looks
none_yet e h = λ k lt. absurd (omega (arith, h, lt))

-- so did all looks so far, but the last one of a cut
abbrev pub LooksOf : {R : Type 0} → RunEnd R → Environment → Type 0
LooksOf (end.Cut at) e = (k : ℕ) × (e.looks ≡ suc k) × (e.look_answer k ≡ Some at) × Unasked e k
LooksOf end.Done e = Unasked e e.looks
LooksOf end.Exit e = Unasked e e.looks
LooksOf (end.Trap kind) e = Unasked e e.looks
LooksOf end.StepLimit e = Unasked e e.looks
LooksOf end.CallDepth e = Unasked e e.looks
LooksOf (end.Refused r) e = Unasked e e.looks

one_more : (e : Environment) → e.look_answer e.looks ≡ None → Unasked e e.looks → Unasked e (suc e.looks)
one_more e h q = λ k lt. ⊎_elim (λ less. q k less) (λ ge. subst (λ n. e.look_answer n ≡ None) (last e.looks k lt ge) h) (cases_lt k e.looks)
  where
    last : (n k : ℕ) → k < suc n → n ≤ k → n ≡ k
    last n k lt ge = omega (arith, lt, ge)

module _ {W R : Type 0} where
  abbrev pub Quiet : Outcome W R → Type 0
  Quiet (Normal s) = Unasked s.environment s.environment.looks
  Quiet (Branch n s) = Unasked s.environment s.environment.looks
  Quiet (Returned s) = Unasked s.environment s.environment.looks
  Quiet (Ended e s) = LooksOf e s.environment
  Quiet (Lacks s) = Unasked s.environment s.environment.looks
  Quiet (InHost f args a n s) = Unasked s.environment s.environment.looks
  Quiet Stuck = Unit {0}

  abbrev pub AllQuiet : (State W → Outcome W R) → Type 0
  AllQuiet f = (s : State W) → Unasked s.environment s.environment.looks → Quiet (f s)

  -- ---- steps

  supplied_quiet : (b : Bool) (go : State W → Outcome W R) → AllQuiet go → AllQuiet (λ s. supplied b s go)
  supplied_quiet true go h s q = q
  supplied_quiet false go h s q = h (record s { environment = after_item s.environment }) q

  pay_quiet : (n : ℕ) (go : State W → Outcome W R) → AllQuiet go → AllQuiet (λ s. pay n s go)
  pay_quiet zero go h s q = q
  pay_quiet (suc n) go h s q = supplied_quiet (s.environment.item_lacks s.environment.items) (λ t. go (record t { left = n; last = suc n })) (λ t r. h (record t { left = n; last = suc n }) r) s q

  seen_quiet : (d : Bool) (a : Option ℕ) (go : State W → Outcome W R) → AllQuiet go → (s : State W) → s.environment.look_answer s.environment.looks ≡ a → Unasked s.environment s.environment.looks → Quiet (seen d a s go)
  seen_quiet false a go h s e q = pay_quiet s.left go h s q
  seen_quiet true None go h s e q = pay_quiet s.left go h (record s { environment = after_look s.environment }) (one_more s.environment e q)
  seen_quiet true (Some at) go h s e q = (s.environment.looks, refl, e, q)

  step_quiet : (go : State W → Outcome W R) → AllQuiet go → AllQuiet (λ s. step s go)
  step_quiet go h s q = seen_quiet (due s.left s.last) (s.environment.look_answer s.environment.looks) go h s refl q

  starts_quiet : (code : Expression) (go : State W → Outcome W R) → AllQuiet go → AllQuiet (starts code go)
  starts_quiet Over go h s q = q
  starts_quiet (Plain i rest) go h s q = step_quiet go h s q
  starts_quiet (Block kind body rest) go h s q = step_quiet go h s q
  starts_quiet (Loop kind body rest) go h s q = step_quiet go h s q
  starts_quiet (If kind one two rest) go h s q = step_quiet go h s q
  starts_quiet (Br n rest) go h s q = step_quiet go h s q
  starts_quiet (BrIf n rest) go h s q = step_quiet go h s q
  starts_quiet (BrTable ns n rest) go h s q = step_quiet go h s q
  starts_quiet (Return rest) go h s q = step_quiet go h s q
  starts_quiet (Call f rest) go h s q = step_quiet go h s q
  starts_quiet (CallIndirect t rest) go h s q = step_quiet go h s q
  starts_quiet (MemoryGrow rest) go h s q = step_quiet go h s q

  -- ---- what follows an outcome

  only_if_quiet : (b : Bool) (o : Outcome W R) → Quiet o → Quiet (only_if b o)
  only_if_quiet true o h = h
  only_if_quiet false o h = tt

  and_then_quiet : (o : Outcome W R) (go : State W → Outcome W R) → AllQuiet go → Quiet o → Quiet (and_then o go)
  and_then_quiet o go g h = through_then Quiet Quiet (itself Quiet) o go (λ s q. g s q) (λ n s q. q) (λ s q. q) h

  of_block_quiet : (kind : Option ValueKind) (height : ℕ) (o : Outcome W R) → Quiet o → Quiet (of_block kind height o)
  of_block_quiet kind height o h = through_block Quiet Quiet (itself Quiet) kind height o (λ s q. q)
      (λ s q. only_if_quiet (nat_le (height + arity kind) (length (stack_of s))) (Normal (on_stack s (unwound kind height (stack_of s)))) q) (λ n s q. q) (λ s q. q) h

  of_loop_quiet : (height : ℕ) (o : Outcome W R) (again : State W → Outcome W R) → AllQuiet again → Quiet o → Quiet (of_loop height o again)
  of_loop_quiet height o again g h = through_loop Quiet Quiet (itself Quiet) height o again (λ s q. q)
      (λ s q. only_if_quiet (nat_le height (length (stack_of s))) (again (on_stack s (keep height (stack_of s)))) (g (on_stack s (keep height (stack_of s))) q)) (λ n s q. q) (λ s q. q) h

module _ (W R : Type 0) where
  back_quiet : (kind : Option ValueKind) (locals stack : List ℕ) → AllQuiet {W = W} {R = R} (back kind locals stack)
  back_quiet kind locals stack s q = only_if_quiet (nat_le (arity kind) (length (stack_of s))) (Normal (returned kind locals stack s)) q

  jump_quiet : (b : Bool) (n : ℕ) → AllQuiet {W = W} {R = R} (jump_unless b n)
  jump_quiet true n s q = q
  jump_quiet false n s q = q

  grow_quiet : (pages : ℕ) → AllQuiet {W = W} {R = R} (grow pages)
  grow_quiet pages s q = by_growth (may_grow s.values.memory pages)
    where
      by_pages : (b : Bool) → Quiet {W = W} {R = R} (pay_pages b pages (grown_by pages s) s)
      by_pages true = q
      by_pages false = q

      by_growth : (b : Bool) → Quiet {W = W} {R = R} (grow_if b pages s)
      by_growth false = q
      by_growth true = by_pages (nat_le pages s.left)

module _ {W R : Type 0} where
  of_call_quiet : (kind : Option ValueKind) (locals stack : List ℕ) (o : Outcome W R) → Quiet o → Quiet (of_call kind locals stack o)
  of_call_quiet kind locals stack o h = through_call Quiet Quiet (itself Quiet) kind locals stack o (back_quiet W R kind locals stack) (back_quiet W R kind locals stack) (λ n s q. tt) (back_quiet W R kind locals stack) h

  settled_quiet : (o : Outcome W R) → Quiet o → Quiet (settled o)
  settled_quiet o h = through_settled Quiet Quiet (itself Quiet) o (λ s q. q) (λ n s q. tt) (λ s q. tt) h

  of_effect_quiet : (e : Effect) (go : State W → Outcome W R) → AllQuiet go → AllQuiet (λ s. of_effect e s go)
  of_effect_quiet (Next v) go g s q = g (with_values s v) q
  of_effect_quiet (Traps kind) go g s q = q
  of_effect_quiet NoRule go g s q = tt

  taking_quiet : (stack : List ℕ) (go : ℕ → State W → Outcome W R) → ((n : ℕ) → AllQuiet (go n)) → AllQuiet (λ s. taking stack s go)
  taking_quiet [] go g s q = tt
  taking_quiet (n ∷ below) go g s q = g n (on_stack s below) q

  turns_quiet : (m : ℕ) (body : State W → Outcome W R) (height : ℕ) → AllQuiet body → AllQuiet (turns m body height)
  turns_quiet zero body height h s q = tt
  turns_quiet (suc m) body height h s q = of_loop_quiet height (body s) (turns m body height) (turns_quiet m body height h) (h s q)

  chosen_quiet : (b : Bool) (one two : State W → Outcome W R) → AllQuiet one → AllQuiet two → AllQuiet (chosen b one two)
  chosen_quiet true one two g h s q = h s q
  chosen_quiet false one two g h s q = g s q

  target_quiet : (r : Option (Result ℕ TrapKind)) (calls : ℕ → State W → Outcome W R) → ((f : ℕ) → AllQuiet (calls f)) → AllQuiet (target r calls)
  target_quiet (Some (Ok f)) calls c s q = c f s q
  target_quiet (Some (Err kind)) calls c s q = q
  target_quiet None calls c s q = tt

module _ {W R : Type 0} (program : Program) (calls : ℕ → State W → Outcome W R) (c : (f : ℕ) → AllQuiet (calls f)) where
  rest_quiet : (code : Expression) → AllQuiet (acts program calls code) → AllQuiet (does program calls code)
  rest_quiet code h = starts_quiet code (acts program calls code) h

  acts_quiet : (code : Expression) → AllQuiet (acts program calls code)
  acts_quiet Over s q = q
  acts_quiet (Plain i rest) s q = of_effect_quiet (effect i s.values) (does program calls rest) (rest_quiet rest (acts_quiet rest)) s q
  acts_quiet (Block kind body rest) s q =
      and_then_quiet (of_block kind (length (stack_of s)) (does program calls body s)) (does program calls rest) (rest_quiet rest (acts_quiet rest))
      (of_block_quiet kind (length (stack_of s)) (does program calls body s) (rest_quiet body (acts_quiet body) s q))
  acts_quiet (Loop kind body rest) s q =
      and_then_quiet (turns (suc s.left) (does program calls body) (length (stack_of s)) s) (does program calls rest) (rest_quiet rest (acts_quiet rest))
      (turns_quiet (suc s.left) (does program calls body) (length (stack_of s)) (rest_quiet body (acts_quiet body)) s q)
  acts_quiet (If kind one two rest) s q =
      let r = rest_quiet rest (acts_quiet rest) in
      let a = rest_quiet one (acts_quiet one) in
      let b = rest_quiet two (acts_quiet two) in
      taking_quiet (stack_of s) _ (λ test t p. and_then_quiet (of_block kind (length (stack_of t)) (chosen (low test == 0) (does program calls one) (does program calls two) t)) (does program calls rest) r
      (of_block_quiet kind (length (stack_of t)) (chosen (low test == 0) (does program calls one) (does program calls two) t) (chosen_quiet (low test == 0) (does program calls one) (does program calls two) a b t p))) s q
  acts_quiet (Br n rest) s q = q
  acts_quiet (BrIf n rest) s q =
      let r = rest_quiet rest (acts_quiet rest) in
      taking_quiet (stack_of s) _ (λ test t p. and_then_quiet (jump_unless (low test == 0) n t) (does program calls rest) r (jump_quiet W R (low test == 0) n t p)) s q
  acts_quiet (BrTable ns n rest) s q = taking_quiet (stack_of s) _ (λ at t p. p) s q
  acts_quiet (Return rest) s q = q
  acts_quiet (Call f rest) s q = and_then_quiet (calls f s) (does program calls rest) (rest_quiet rest (acts_quiet rest)) (c f s q)
  acts_quiet (CallIndirect wanted rest) s q =
      let r = rest_quiet rest (acts_quiet rest) in
      taking_quiet (stack_of s) _ (λ at t p. and_then_quiet (target (element program wanted (low at)) calls t) (does program calls rest) r (target_quiet (element program wanted (low at)) calls c t p)) s q
  acts_quiet (MemoryGrow rest) s q =
      let r = rest_quiet rest (acts_quiet rest) in
      taking_quiet (stack_of s) _ (λ pages t p. and_then_quiet (grow (low pages) t) (does program calls rest) r (grow_quiet W R (low pages) t p)) s q

module _ {W R : Type 0} where
  of_reply_quiet : (results : List ValueKind) (number : ℕ) (args below : List ℕ) (reply : Reply W R) (left : ℕ) → AllQuiet (of_reply results number args below reply left)
  of_reply_quiet results number args below (value n w m) left s q =
      only_if_quiet (not (gives_none results)) (Normal (record s { world = w; left = left; environment = after_call s.environment; values = record s.values { stack = n ∷ below; memory = m } })) q
  of_reply_quiet results number args below (nothing w m) left s q =
      only_if_quiet (gives_none results) (Normal (record s { world = w; left = left; environment = after_call s.environment; values = record s.values { stack = below; memory = m } })) q
  of_reply_quiet results number args below (exit w m) left s q = q
  of_reply_quiet results number args below (refused r) left s q = q
  of_reply_quiet results number args below step_limit left s q = q

  host_supplied_quiet : (b : Bool) (number : ℕ) (args : List ℕ) (go : Outcome W R) (s : State W) → Unasked s.environment s.environment.looks → Quiet go → Quiet (host_supplied b number args go s)
  host_supplied_quiet true number args go s q h = q
  host_supplied_quiet false number args go s q h = h

  call_host_quiet : (host : HostMeaning W R) (kind : FuncType) (number : ℕ) → AllQuiet (call_host host kind number)
  call_host_quiet host kind number s q =
      let args = masked kind.params (arguments (length kind.params) (stack_of s)) in
      let o = host s.world number args s.values.memory s.left in
      host_supplied_quiet (s.environment.call_lacks s.environment.calls) number args (of_reply kind.results number args (drop (length kind.params) (stack_of s)) o.reply o.left s) s q
      (of_reply_quiet kind.results number args (drop (length kind.params) (stack_of s)) o.reply o.left s q)

  of_function_quiet : (host : HostMeaning W R) (own : FuncType → ℕ → Expression → State W → Outcome W R) → ((kind : FuncType) (locals : ℕ) (body : Expression) → AllQuiet (own kind locals body)) → (f : Option FunctionInstance) → AllQuiet (of_function host own f)
  of_function_quiet host own h (Some (Own kind locals body)) s q = only_if_quiet (nat_le (length kind.params) (length (stack_of s))) (own kind locals body s) (h kind locals body s q)
  of_function_quiet host own h (Some (Given kind number)) s q = only_if_quiet (nat_le (length kind.params) (length (stack_of s))) (call_host host kind number s) (call_host_quiet host kind number s q)
  of_function_quiet host own h (Some Missing) s q = tt
  of_function_quiet host own h None s q = tt

  call_quiet : (host : HostMeaning W R) (program : Program) (free f : ℕ) → AllQuiet (call host program free f)
  call_quiet host program zero f = of_function_quiet host no_frame (λ kind locals body s q. q) (slice_get program.functions f)
  call_quiet host program (suc free) f =
      of_function_quiet host (call_own (does program (call host program free)))
      (λ kind locals body s q. of_call_quiet (result_of kind.results) s.values.locals (drop (length kind.params) (stack_of s)) (does program (call host program free) body (entered kind locals s))
      (rest_quiet program (call host program free) (call_quiet host program free) body (acts_quiet program (call host program free) (call_quiet host program free) body) (entered kind locals s) q))
      (slice_get program.functions f)

  invoked_quiet : (host : HostMeaning W R) (program : Program) (free f : ℕ) → AllQuiet (invoked host program free f)
  invoked_quiet host program free f s q = supplied_quiet (s.environment.item_lacks s.environment.items) (λ t. settled (call host program free f t)) (λ t r. settled_quiet (call host program free f t) (call_quiet host program free f t r)) s q

  start_quiet : (host : HostMeaning W R) (program : Program) (f : Option ℕ) → AllQuiet (start_runs host program f)
  start_quiet host program None s q = q
  start_quiet host program (Some f) s q = invoked_quiet host program most_frames f (with_arguments [] s) q

  apply_quiet : (host : HostMeaning W R) (program : Program) (f : Option ℕ) (args : List ℕ) → AllQuiet (apply_runs host program f args)
  apply_quiet host program None args s q = tt
  apply_quiet host program (Some f) args s q = invoked_quiet host program most_frames f (with_arguments args s) q

  where_quiet : (b : Bool) (go : State W → Outcome W R) → AllQuiet go → AllQuiet (where_fit b go)
  where_quiet true go h s q = h s q
  where_quiet false go h s q = q

  pub run_quiet : (host : HostMeaning W R) (m : Tree) (args : List ℕ) (w : W) (left : ℕ) (environment : Environment) → Unasked environment environment.looks → Quiet (run_of host m args w left environment)
  run_quiet host m args w left environment q =
      supplied_quiet (environment.item_lacks environment.items) (where_fit (segments_fit m) (both_run host (program_in m) m args))
      (where_quiet (segments_fit m) (both_run host (program_in m) m args) (λ s r. and_then_quiet (start_runs host (program_in m) m.start s) (apply_runs host (program_in m) (apply_in m) args) (apply_quiet host (program_in m) (apply_in m) args) (start_quiet host (program_in m) m.start s r)))
      (outset_of m w left environment) q
