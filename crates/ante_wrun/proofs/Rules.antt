-- What stands where the whole isn't stuck: the operands, the frames and the functions that the next rule wants.
use Rattle.std.proofs.Common.{◌≡◌, ℕ, zero, suc, ◌+◌, ◌<◌, ◌≤◌, Bool, true, false, List, [], ◌∷◌, length, take, Option, None, Some, Result, Ok, Err, refl, ap, subst, arith}
use Rattle.std.specs.Prelude.{◌&&◌, ◌==◌, nat_le, slice_get, slice_index_or, if◌then◌else◌}
use Rattle.std.proofs.lemmas.Bool.{leb-true}
use Rattle.ante_wmem.specs.HostCalls.{HostMeaning}
use Rattle.ante_wmem.specs.HostCalls as calls
use Rattle.ante_wtree.specs.declared.instructions.ValueKind.{ValueKind}
use Rattle.ante_wtree.specs.declared.instructions.PlainInstr.{PlainInstr}
use Rattle.ante_wtree.specs.declared.modules.FuncType.{FuncType}
use Rattle.ante_wtree.specs.Expressions.{Expression, If, BrIf, BrTable, CallIndirect, MemoryGrow}
use Rattle.ante_wmeaning.specs.declared.ends.TrapKind.{TrapKind}
use Rattle.ante_wrun.specs.declared.blocks.Frame.{Frame}
use Rattle.ante_wrun.specs.declared.blocks.Frame.TheVariants as frame
use Rattle.ante_wrun.specs.declared.thread.Thread.{Thread}
use Rattle.ante_wmeaning.specs.PlainInstructions.{Values, Effect, NoRule, effect, operands, finds, done, low, top, popped}
use Rattle.ante_wmeaning.specs.Configurations.{Program, FunctionInstance, Own, Given, Missing, State, Outcome, Normal, Branch, Returned, Ended, Lacks, InHost, Stuck, on_stack, stack_of}
use Rattle.ante_wmeaning.specs.Arities.{arity}
use Rattle.ante_wmeaning.specs.Execution.{only_if, and_then, of_effect, of_block, chosen, jump_unless, grow, element, acts, does, taking, target, of_function, of_reply, call}
use Rattle.ante_wrun.specs.ThreadStates.{under, whole, Reaches, Returns, Gives}
use Rattle.ante_wrun.specs.Control.{Takes, Leaves}
use Rattle.ante_wmeaning.specs.RunEnds.{NotStuck}
use Rattle.ante_wmeaning.specs.HostConditions.{Replies}

le_of : (m n : ℕ) → nat_le m n ≡ true → m ≤ n
le_of m n e = leb-true m n e

and_left : (a b : Bool) → (a && b) ≡ true → a ≡ true
and_left true b e = refl
and_left false b e = cc

and_right : (a b : Bool) → (a && b) ≡ true → b ≡ true
and_right true b e = e
and_right false b e = cc

module _ {W R : Type 0} where
  pub only_is : (b : Bool) (o : Outcome W R) → NotStuck (only_if b o) → b ≡ true
  only_is true o h = refl
  only_is false o h = absurd h

  pub first_runs : (o : Outcome W R) (go : State W → Outcome W R) → NotStuck (and_then o go) → NotStuck o
  first_runs (Normal s) go h = tt
  first_runs (Branch n s) go h = tt
  first_runs (Returned s) go h = tt
  first_runs (Ended e s) go h = tt
  first_runs (Lacks s) go h = tt
  first_runs (InHost f args a n s) go h = tt
  first_runs Stuck go h = absurd h

  pub has_one : (stack : List ℕ) (s : State W) (go : ℕ → State W → Outcome W R) → NotStuck (taking stack s go) → 0 < length stack
  has_one [] s go h = absurd h
  has_one (n ∷ below) s go h = omega arith

  pub takes_one : (stack : List ℕ) (s : State W) (go : ℕ → State W → Outcome W R) → 0 < length stack → taking stack s go ≡ go (top stack) (on_stack s (popped stack))
  takes_one [] s go lt = absurd (omega (arith, lt))
  takes_one (n ∷ below) s go lt = refl

  ready : (i : PlainInstr) (v : Values) (s : State W) (go : State W → Outcome W R) → NotStuck (of_effect (effect i v) s go) → (nat_le (operands i) (length v.stack) && finds i v) ≡ true
  ready i v s go h = yes_of (nat_le (operands i) (length v.stack) && finds i v) (done i v) h
    where
      yes_of : (b : Bool) (e : Effect) → NotStuck (of_effect (if b then e else NoRule) s go) → b ≡ true
      yes_of true e h = refl
      yes_of false e h = absurd h

  pub has_operands : (i : PlainInstr) (v : Values) (s : State W) (go : State W → Outcome W R) → NotStuck (of_effect (effect i v) s go) → operands i ≤ length v.stack
  has_operands i v s go h = le_of (operands i) (length v.stack) (and_left (nat_le (operands i) (length v.stack)) (finds i v) (ready i v s go h))

  pub has_place : (i : PlainInstr) (v : Values) (s : State W) (go : State W → Outcome W R) → NotStuck (of_effect (effect i v) s go) → finds i v ≡ true
  has_place i v s go h = and_right (nat_le (operands i) (length v.stack)) (finds i v) (ready i v s go h)

  pub effect_is : (i : PlainInstr) (v : Values) (s : State W) (go : State W → Outcome W R) → NotStuck (of_effect (effect i v) s go) → effect i v ≡ done i v
  effect_is i v s go h = ap (λ b. if b then done i v else NoRule) (ready i v s go h)

  pub replies_so : (results : List ValueKind) (number : ℕ) (args below : List ℕ) (reply : calls.Reply W R) (left : ℕ) (s : State W) → NotStuck (of_reply results number args below reply left s) → Replies results reply
  replies_so [] number args below (calls.value n w m) left s h = absurd h
  replies_so (k ∷ ks) number args below (calls.value n w m) left s h = refl
  replies_so [] number args below (calls.nothing w m) left s h = refl
  replies_so (k ∷ ks) number args below (calls.nothing w m) left s h = absurd h
  replies_so results number args below (calls.exit w m) left s h = tt
  replies_so results number args below (calls.refused r) left s h = tt
  replies_so results number args below calls.step_limit left s h = tt

module _ {W R : Type 0} (host : HostMeaning W R) (program : Program) where
  stuck : (free : ℕ) (below : List ℕ) (frames : List Frame) → under host program free below frames Stuck ≡ Stuck
  stuck free below [] = refl
  stuck free below (frame.Block kind height rest ∷ frames) = stuck free below frames
  stuck free below (frame.Loop height body rest ∷ frames) = stuck free below frames
  stuck free below (frame.Call kind base locals above rest ∷ frames) = stuck above (take base below) frames

  pub inner : (free : ℕ) (below : List ℕ) (frames : List Frame) (o : Outcome W R) → NotStuck (under host program free below frames o) → NotStuck o
  inner free below frames (Normal s) h = tt
  inner free below frames (Branch n s) h = tt
  inner free below frames (Returned s) h = tt
  inner free below frames (Ended e s) h = tt
  inner free below frames (Lacks s) h = tt
  inner free below frames (InHost f args a n s) h = tt
  inner free below frames Stuck h = subst NotStuck (stuck free below frames) h

  pub reaches : (free : ℕ) (below : List ℕ) (frames : List Frame) (n : ℕ) (s : State W) → NotStuck (under host program free below frames (Branch n s)) → Reaches frames n (length (stack_of s))
  reaches free below [] n s h = h
  reaches free below (frame.Block kind height rest ∷ frames) zero s h =
      le_of (height + arity kind) (length (stack_of s)) (only_is _ _ (first_runs _ _ (inner free below frames _ h)))
  reaches free below (frame.Block kind height rest ∷ frames) (suc n) s h = reaches free below frames n s h
  reaches free below (frame.Loop height body rest ∷ frames) zero s h = le_of height (length (stack_of s)) (only_is _ _ (first_runs _ _ (inner free below frames _ h)))
  reaches free below (frame.Loop height body rest ∷ frames) (suc n) s h = reaches free below frames n s h
  reaches free below (frame.Call kind base locals above rest ∷ frames) zero s h = le_of (arity kind) (length (stack_of s)) (only_is _ _ (first_runs _ _ (inner above (take base below) frames _ h)))
  reaches free below (frame.Call kind base locals above rest ∷ frames) (suc n) s h = inner above (take base below) frames Stuck h

  pub returns : (free : ℕ) (below : List ℕ) (frames : List Frame) (s : State W) → NotStuck (under host program free below frames (Returned s)) → Returns frames (length (stack_of s))
  returns free below [] s h = h
  returns free below (frame.Block kind height rest ∷ frames) s h = returns free below frames s h
  returns free below (frame.Loop height body rest ∷ frames) s h = returns free below frames s h
  returns free below (frame.Call kind base locals above rest ∷ frames) s h = le_of (arity kind) (length (stack_of s)) (only_is _ _ (first_runs _ _ (inner above (take base below) frames _ h)))

  pub gives_back : (free : ℕ) (below : List ℕ) (f : Frame) (frames : List Frame) (s : State W) → NotStuck (under host program free below (f ∷ frames) (Normal s)) → Gives f (length (stack_of s))
  gives_back free below (frame.Block kind height rest) frames s h = tt
  gives_back free below (frame.Loop height body rest) frames s h = tt
  gives_back free below (frame.Call kind base locals above rest) frames s h = le_of (arity kind) (length (stack_of s)) (only_is _ _ (first_runs _ _ (inner above (take base below) frames _ h)))

  takes : (own : FuncType → ℕ → Expression → State W → Outcome W R) (o : Option FunctionInstance) (s : State W) → NotStuck (of_function host own o s) → Takes o (length (stack_of s))
  takes own (Some (Own kind locals body)) s h = le_of (length kind.params) (length (stack_of s)) (only_is _ _ h)
  takes own (Some (Given kind number)) s h = le_of (length kind.params) (length (stack_of s)) (only_is _ _ h)
  takes own (Some Missing) s h = h
  takes own None s h = h

  pub callable : (free f : ℕ) (s : State W) → NotStuck (call host program free f s) → Takes (slice_get program.functions f) (length (stack_of s))
  callable zero f s h = takes _ (slice_get program.functions f) s h
  callable (suc free) f s h = takes _ (slice_get program.functions f) s h

  pub leaves : (free : ℕ) (r : Option (Result ℕ TrapKind)) (s : State W) → NotStuck (target r (call host program free) s) → Leaves program r (length (stack_of s))
  leaves free (Some (Ok f)) s h = callable free f s h
  leaves free (Some (Err kind)) s h = tt
  leaves free None s h = h

-- ---- instructions that take an operand, in a run that isn't stuck

module _ {W R : Type 0} (host : HostMeaning W R) (program : Program) (t : Thread) where
  abbrev K : ℕ → State W → Outcome W R
  K = call host program t.free

  pub alone : (o : Outcome W R) → NotStuck (whole host program t o) → NotStuck o
  alone o h = inner host program t.free t.state.values.below t.frames o h

  pub begins : (x y : Expression) (s : State W) → x ≡ y → NotStuck (whole host program t (acts program K x s)) → NotStuck (whole host program t (acts program K y s))
  begins x y s e h = subst (λ z. NotStuck (whole host program t (acts program K z s))) e h

  pub operand : (x y : Expression) (s : State W) (go : ℕ → State W → Outcome W R) → x ≡ y → acts program K y s ≡ taking (stack_of s) s go → NotStuck (whole host program t (acts program K x s)) → 0 < length (stack_of s)
  operand x y s go e f h = has_one (stack_of s) s go (subst NotStuck f (alone (acts program K y s) (begins x y s e h)))

module _ {W R : Type 0} (program : Program) (calls : ℕ → State W → Outcome W R) (s : State W) (lt : 0 < length (stack_of s)) where
  abbrev below : State W
  below = on_stack s (popped (stack_of s))

  abbrev lowest : ℕ
  lowest = low (top (stack_of s))

  pub If_is : (kind : Option ValueKind) (one two rest : Expression) → acts program calls (If kind one two rest) s
      ≡ and_then (of_block kind (length (popped (stack_of s))) (chosen (lowest == 0) (does program calls one) (does program calls two) below)) (does program calls rest)
  If_is kind one two rest = takes_one (stack_of s) s _ lt

  pub BrIf_is : (n : ℕ) (rest : Expression) → acts program calls (BrIf n rest) s ≡ and_then (jump_unless (lowest == 0) n below) (does program calls rest)
  BrIf_is n rest = takes_one (stack_of s) s _ lt

  pub BrTable_is : (ns : List ℕ) (n : ℕ) (rest : Expression) → acts program calls (BrTable ns n rest) s ≡ Branch (slice_index_or ns lowest n) below
  BrTable_is ns n rest = takes_one (stack_of s) s _ lt

  pub CallIndirect_is : (wanted : ℕ) (rest : Expression) → acts program calls (CallIndirect wanted rest) s ≡ and_then (target (element program wanted lowest) calls below) (does program calls rest)
  CallIndirect_is wanted rest = takes_one (stack_of s) s _ lt

  pub MemoryGrow_is : (rest : Expression) → acts program calls (MemoryGrow rest) s ≡ and_then (grow lowest below) (does program calls rest)
  MemoryGrow_is rest = takes_one (stack_of s) s _ lt
