-- Runs over hosts that reply alike: in one environment the same outcome, and in a calm one the same but for cuts and want of memory.
-- Both are one recursion, over whether the other run's environment is calm.
use Rattle.std.proofs.Common.{◌≡◌, ◌⊎◌, inl, inr, ℕ, zero, suc, ◌+◌, Bool, true, false, List, [], ◌∷◌, length, drop, Option, None, Some, Result, Ok, Err, refl, ap, sym, subst, ◌∙◌}
use Rattle.std.specs.Prelude.{◌==◌, not, nat_le, slice_get}
use Rattle.ante_wmem.specs.Linear.{may_grow}
use Rattle.ante_wmem.specs.HostCalls.{Reply, value, nothing, exit, refused, step_limit, HostMeaning}
use Rattle.ante_wmem.specs.declared.host.HostAnswer.{HostAnswer}
use Rattle.ante_wtree.specs.declared.instructions.ValueKind.{ValueKind}
use Rattle.ante_wtree.specs.declared.modules.FuncType.{FuncType}
use Rattle.ante_wtree.specs.Expressions.{Expression, Over, Plain, Block, Loop, If, Br, BrIf, BrTable, Return, Call, CallIndirect, MemoryGrow}
use Rattle.ante_wtree.specs.Trees.{Tree}
use Rattle.ante_wmeaning.specs.declared.ends.TrapKind.{TrapKind}
use Rattle.ante_wmeaning.specs.declared.ends.RunEnd.{RunEnd}
use Rattle.ante_wmeaning.specs.PlainInstructions.{Effect, Next, Traps, NoRule, effect, low}
use Rattle.ante_wmeaning.specs.Environment.{Environment, calm_from, after_look, after_item, after_call}
use Rattle.ante_wmeaning.specs.Configurations.{FunctionInstance, Own, Given, Missing, Program, State, Outcome, Normal, Branch, Returned, Ended, Lacks, InHost, Stuck, stack_of, on_stack, with_values}
use Rattle.ante_wmeaning.specs.Arities.{arity, gives_none}
use Rattle.ante_wmeaning.specs.Execution.{keep, unwound, returned, only_if, back, taking, grown_by, entered, arguments, due, supplied, pay, seen, step, starts, and_then, of_block, of_loop, of_call, settled, of_effect, turns, chosen, jump_unless, target, pay_pages, grow_if, grow, element, acts, does, of_reply, host_supplied, call_host, of_function, no_frame, call_own, call, invoked}
use Rattle.ante_wmeaning.specs.Instantiation.{segments_fit, program_in, apply_in}
use Rattle.ante_wtree.specs.Limits.{most_frames}
use Rattle.ante_wtree.specs.Types.{masked, result_of}
use Rattle.ante_wmeaning.specs.Invocation.{with_arguments, outset_of, where_fit, start_runs, apply_runs, both_run, run_of}
use Rattle.ante_wmeaning.specs.Likeness.{SameReply, ReplyAlike, over, SameOutcome, RunAlike, Disturbed, RunUndisturbed}
use Rattle.ante_wmeaning.proofs.Outcomes.{Keeps, through_then, through_block, through_loop, through_call, through_settled}

-- ---- the environment as it is, or a calm one

abbrev answer_in : Bool → Option ℕ → Option ℕ
answer_in false answer = answer
answer_in true answer = None

abbrev lacks_in : Bool → Bool → Bool
lacks_in false lacks = lacks
lacks_in true lacks = false

abbrev pub eased : Bool → Environment → Environment
eased calm o = record {
  looks = o.looks;
  look_answer = λ n. answer_in calm (o.look_answer n);
  items = o.items;
  item_lacks = λ n. lacks_in calm (o.item_lacks n);
  calls = o.calls;
  call_lacks = λ n. lacks_in calm (o.call_lacks n);
}

abbrev IsCalm : Bool → Type 0
IsCalm false = ⊥
IsCalm true = Unit {0}

-- the same outcome, or, in a calm environment, one that a look or want of memory made
abbrev pub Follows : {V W R : Type 0} → Bool → (V → W → Type 0) → Outcome V R → Outcome W R → Type 0
Follows calm Like o p = (IsCalm calm × Disturbed Like o) ⊎ SameOutcome (eased calm) Like o p

module _ {V W R : Type 0} (calm : Bool) (Like : V → W → Type 0) where
  abbrev F : Outcome V R → Outcome W R → Type 0
  F o p = Follows calm Like o p

  abbrev pub AllFollow : (State V → Outcome V R) → (State W → Outcome W R) → Type 0
  AllFollow f g = (s : State V) (w : W) → Like s.world w → F (f s) (g (over (eased calm) s w))

module _ {V W R : Type 0} (Like : V → W → Type 0) where
  -- ---- steps

  pub supplied_follows : (calm b : Bool) (s : State V) (w : W) (f : State V → Outcome V R) (g : State W → Outcome W R) → Like s.world w → AllFollow calm Like f g →
      Follows calm Like (supplied b s f) (supplied (lacks_in calm b) (over (eased calm) s w) g)
  supplied_follows false true s w f g l h = inr (w, l, refl)
  supplied_follows false false s w f g l h = h (record s { environment = after_item s.environment }) w l
  supplied_follows true true s w f g l h = inl (tt, (w, l))
  supplied_follows true false s w f g l h = h (record s { environment = after_item s.environment }) w l

  pay_follows : (calm : Bool) (n : ℕ) (s : State V) (w : W) (f : State V → Outcome V R) (g : State W → Outcome W R) → Like s.world w → AllFollow calm Like f g →
      Follows calm Like (pay n s f) (pay n (over (eased calm) s w) g)
  pay_follows calm zero s w f g l h = inr (w, l, refl)
  pay_follows calm (suc n) s w f g l h =
      supplied_follows calm (s.environment.item_lacks s.environment.items) s w (λ t. f (record t { left = n; last = suc n })) (λ t. g (record t { left = n; last = suc n })) l
      (λ t u k. h (record t { left = n; last = suc n }) u k)

  seen_follows : (calm d : Bool) (a : Option ℕ) (s : State V) (w : W) (f : State V → Outcome V R) (g : State W → Outcome W R) → Like s.world w → AllFollow calm Like f g →
      Follows calm Like (seen d a s f) (seen d (answer_in calm a) (over (eased calm) s w) g)
  seen_follows calm false a s w f g l h = pay_follows calm s.left s w f g l h
  seen_follows false true None s w f g l h = pay_follows false s.left (record s { environment = after_look s.environment }) w f g l h
  seen_follows true true None s w f g l h = pay_follows true s.left (record s { environment = after_look s.environment }) w f g l h
  seen_follows false true (Some at) s w f g l h = inr (w, l, refl)
  seen_follows true true (Some at) s w f g l h = inl (tt, (w, l))

module _ {V W R : Type 0} (calm : Bool) (Like : V → W → Type 0) where
  step_follows : (f : State V → Outcome V R) (g : State W → Outcome W R) → AllFollow calm Like f g → AllFollow calm Like (λ s. step s f) (λ s. step s g)
  step_follows f g h s w l = seen_follows Like calm (due s.left s.last) (s.environment.look_answer s.environment.looks) s w f g l h

  starts_follows : (code : Expression) (f : State V → Outcome V R) (g : State W → Outcome W R) → AllFollow calm Like f g → AllFollow calm Like (starts code f) (starts code g)
  starts_follows Over f g h s w l = inr (w, l, refl)
  starts_follows (Plain i rest) f g h s w l = step_follows f g h s w l
  starts_follows (Block kind body rest) f g h s w l = step_follows f g h s w l
  starts_follows (Loop kind body rest) f g h s w l = step_follows f g h s w l
  starts_follows (If kind one two rest) f g h s w l = step_follows f g h s w l
  starts_follows (Br n rest) f g h s w l = step_follows f g h s w l
  starts_follows (BrIf n rest) f g h s w l = step_follows f g h s w l
  starts_follows (BrTable ns n rest) f g h s w l = step_follows f g h s w l
  starts_follows (Return rest) f g h s w l = step_follows f g h s w l
  starts_follows (Call n rest) f g h s w l = step_follows f g h s w l
  starts_follows (CallIndirect t rest) f g h s w l = step_follows f g h s w l
  starts_follows (MemoryGrow rest) f g h s w l = step_follows f g h s w l

  -- ---- what follows an outcome

  only_if_follows : (b : Bool) (o : Outcome V R) (p : Outcome W R) → Follows calm Like o p → Follows calm Like (only_if b o) (only_if b p)
  only_if_follows true o p h = h
  only_if_follows false o p h = inr refl

  -- where the other outcome is the same, and G does with it what gives this one
  module _ (G : Outcome W R → Outcome W R) (p : Outcome W R) where
    from_normal : (s : State V) (o : Outcome V R) → ((w : W) → Like s.world w → Follows calm Like o (G (Normal (over (eased calm) s w)))) → Follows calm Like (Normal s) p → Follows calm Like o (G p)
    from_normal s o k (inl d) = absurd d.1
    from_normal s o k (inr (w, l, q)) = subst (λ x. Follows calm Like o (G x)) (sym q) (k w l)

    from_branch : (n : ℕ) (s : State V) (o : Outcome V R) → ((w : W) → Like s.world w → Follows calm Like o (G (Branch n (over (eased calm) s w)))) → Follows calm Like (Branch n s) p → Follows calm Like o (G p)
    from_branch n s o k (inl d) = absurd d.1
    from_branch n s o k (inr (w, l, q)) = subst (λ x. Follows calm Like o (G x)) (sym q) (k w l)

    from_returned : (s : State V) (o : Outcome V R) → ((w : W) → Like s.world w → Follows calm Like o (G (Returned (over (eased calm) s w)))) → Follows calm Like (Returned s) p → Follows calm Like o (G p)
    from_returned s o k (inl d) = absurd d.1
    from_returned s o k (inr (w, l, q)) = subst (λ x. Follows calm Like o (G x)) (sym q) (k w l)

    on_ended : ((e : RunEnd R) (t : State W) → G (Ended e t) ≡ Ended e t) → (e : RunEnd R) (s : State V) → Follows calm Like (Ended e s) p → Follows calm Like (Ended e s) (G p)
    on_ended h e s (inl d) = inl d
    on_ended h e s (inr (w, l, q)) = inr (w, l, ap G q ∙ h e (over (eased calm) s w))

    on_lacks : ((t : State W) → G (Lacks t) ≡ Lacks t) → (s : State V) → Follows calm Like (Lacks s) p → Follows calm Like (Lacks s) (G p)
    on_lacks h s (inl d) = inl d
    on_lacks h s (inr (w, l, q)) = inr (w, l, ap G q ∙ h (over (eased calm) s w))

    on_call : ((f : ℕ) (args : List ℕ) (a : HostAnswer R) (n : ℕ) (t : State W) → G (InHost f args a n t) ≡ InHost f args a n t) →
        (f : ℕ) (args : List ℕ) (a : HostAnswer R) (n : ℕ) (s : State V) → Follows calm Like (InHost f args a n s) p → Follows calm Like (InHost f args a n s) (G p)
    on_call h f args a n s (inl d) = inl d
    on_call h f args a n s (inr (w, l, q)) = inr (w, l, ap G q ∙ h f args a n (over (eased calm) s w))

    on_stuck : G Stuck ≡ Stuck → Follows calm Like Stuck p → Follows calm Like Stuck (G p)
    on_stuck h (inl d) = absurd d.1
    on_stuck h (inr q) = inr (ap G q ∙ h)

    kept : ((e : RunEnd R) (t : State W) → G (Ended e t) ≡ Ended e t) → ((t : State W) → G (Lacks t) ≡ Lacks t) →
        ((f : ℕ) (args : List ℕ) (a : HostAnswer R) (n : ℕ) (t : State W) → G (InHost f args a n t) ≡ InHost f args a n t) → G Stuck ≡ Stuck →
        Keeps (λ (o : Outcome V R). Follows calm Like o p) (λ (o : Outcome V R). Follows calm Like o (G p))
    kept e l c s = record { ended = on_ended e; lacks = on_lacks l; in_host = on_call c; stuck = on_stuck s }

  pub and_then_follows : (o : Outcome V R) (p : Outcome W R) (f : State V → Outcome V R) (g : State W → Outcome W R) → Follows calm Like o p → AllFollow calm Like f g → Follows calm Like (and_then o f) (and_then p g)
  and_then_follows o p f g r h =
      let G : Outcome W R → Outcome W R = λ x. and_then x g in
      through_then (λ (o : Outcome V R). Follows calm Like o p) (λ (o : Outcome V R). Follows calm Like o (and_then p g)) (kept G p (λ e t. refl) (λ t. refl) (λ n args a m t. refl) refl) o f
      (λ s. from_normal G p s (f s) (h s))
      (λ n s. from_branch G p n s (Branch n s) (λ w l. inr (w, l, refl)))
      (λ s. from_returned G p s (Returned s) (λ w l. inr (w, l, refl)))
      r

  of_block_follows : (kind : Option ValueKind) (height : ℕ) (o : Outcome V R) (p : Outcome W R) → Follows calm Like o p → Follows calm Like (of_block kind height o) (of_block kind height p)
  of_block_follows kind height o p r =
      let G : Outcome W R → Outcome W R = of_block kind height in
      through_block (λ (o : Outcome V R). Follows calm Like o p) (λ (o : Outcome V R). Follows calm Like o (of_block kind height p)) (kept G p (λ e t. refl) (λ t. refl) (λ n args a m t. refl) refl) kind height o
      (λ s. from_normal G p s (Normal s) (λ w l. inr (w, l, refl)))
      (λ s. from_branch G p zero s (of_block kind height (Branch zero s)) (λ w l.
      only_if_follows (nat_le (height + arity kind) (length (stack_of s))) (Normal (on_stack s (unwound kind height (stack_of s)))) (Normal (on_stack (over (eased calm) s w) (unwound kind height (stack_of s)))) (inr (w, l, refl))))
      (λ n s. from_branch G p (suc n) s (Branch n s) (λ w l. inr (w, l, refl)))
      (λ s. from_returned G p s (Returned s) (λ w l. inr (w, l, refl)))
      r

  of_loop_follows : (height : ℕ) (o : Outcome V R) (p : Outcome W R) (f : State V → Outcome V R) (g : State W → Outcome W R) → Follows calm Like o p → AllFollow calm Like f g → Follows calm Like (of_loop height o f) (of_loop height p g)
  of_loop_follows height o p f g r h =
      let G : Outcome W R → Outcome W R = λ x. of_loop height x g in
      through_loop (λ (o : Outcome V R). Follows calm Like o p) (λ (o : Outcome V R). Follows calm Like o (of_loop height p g)) (kept G p (λ e t. refl) (λ t. refl) (λ n args a m t. refl) refl) height o f
      (λ s. from_normal G p s (Normal s) (λ w l. inr (w, l, refl)))
      (λ s. from_branch G p zero s (of_loop height (Branch zero s) f) (λ w l.
      only_if_follows (nat_le height (length (stack_of s))) (f (on_stack s (keep height (stack_of s)))) (g (on_stack (over (eased calm) s w) (keep height (stack_of s)))) (h (on_stack s (keep height (stack_of s))) w l)))
      (λ n s. from_branch G p (suc n) s (Branch n s) (λ w l. inr (w, l, refl)))
      (λ s. from_returned G p s (Returned s) (λ w l. inr (w, l, refl)))
      r

module _ {V W : Type 0} (R : Type 0) (calm : Bool) (Like : V → W → Type 0) where
  back_follows : (kind : Option ValueKind) (locals stack : List ℕ) → AllFollow {R = R} calm Like (back kind locals stack) (back kind locals stack)
  back_follows kind locals stack s w l =
      only_if_follows {R = R} calm Like (nat_le (arity kind) (length (stack_of s))) (Normal (returned kind locals stack s)) (Normal (returned kind locals stack (over (eased calm) s w))) (inr (w, l, refl))

  jump_follows : (b : Bool) (n : ℕ) → AllFollow {R = R} calm Like (jump_unless b n) (jump_unless b n)
  jump_follows true n s w l = inr (w, l, refl)
  jump_follows false n s w l = inr (w, l, refl)

  pay_pages_follows : (b : Bool) (pages : ℕ) (grown s : State V) (w : W) → Like grown.world w → Like s.world w →
      Follows {R = R} calm Like (pay_pages b pages grown s) (pay_pages b pages (over (eased calm) grown w) (over (eased calm) s w))
  pay_pages_follows true pages grown s w k l = inr (w, k, refl)
  pay_pages_follows false pages grown s w k l = inr (w, l, refl)

  grow_if_follows : (b : Bool) (pages : ℕ) → AllFollow {R = R} calm Like (grow_if b pages) (grow_if b pages)
  grow_if_follows true pages s w l = pay_pages_follows (nat_le pages s.left) pages (grown_by pages s) s w l l
  grow_if_follows false pages s w l = inr (w, l, refl)

module _ {V W R : Type 0} (calm : Bool) (Like : V → W → Type 0) where
  of_call_follows : (kind : Option ValueKind) (locals stack : List ℕ) (o : Outcome V R) (p : Outcome W R) → Follows calm Like o p → Follows calm Like (of_call kind locals stack o) (of_call kind locals stack p)
  of_call_follows kind locals stack o p r =
      let G : Outcome W R → Outcome W R = of_call kind locals stack in
      through_call (λ (o : Outcome V R). Follows calm Like o p) (λ (o : Outcome V R). Follows calm Like o (of_call kind locals stack p)) (kept calm Like G p (λ e t. refl) (λ t. refl) (λ n args a m t. refl) refl) kind locals stack o
      (λ s. from_normal calm Like G p s (back kind locals stack s) (back_follows R calm Like kind locals stack s))
      (λ s. from_branch calm Like G p zero s (back kind locals stack s) (back_follows R calm Like kind locals stack s))
      (λ n s. from_branch calm Like G p (suc n) s Stuck (λ w l. inr refl))
      (λ s. from_returned calm Like G p s (back kind locals stack s) (back_follows R calm Like kind locals stack s))
      r

  settled_follows : (o : Outcome V R) (p : Outcome W R) → Follows calm Like o p → Follows calm Like (settled o) (settled p)
  settled_follows o p r =
      let G : Outcome W R → Outcome W R = settled in
      through_settled (λ (o : Outcome V R). Follows calm Like o p) (λ (o : Outcome V R). Follows calm Like o (settled p)) (kept calm Like G p (λ e t. refl) (λ t. refl) (λ n args a m t. refl) refl) o
      (λ s. from_normal calm Like G p s (Normal s) (λ w l. inr (w, l, refl)))
      (λ n s. from_branch calm Like G p n s Stuck (λ w l. inr refl))
      (λ s. from_returned calm Like G p s Stuck (λ w l. inr refl))
      r

  of_effect_follows : (e : Effect) (s : State V) (w : W) (f : State V → Outcome V R) (g : State W → Outcome W R) → Like s.world w → AllFollow calm Like f g → Follows calm Like (of_effect e s f) (of_effect e (over (eased calm) s w) g)
  of_effect_follows (Next v) s w f g l h = h (with_values s v) w l
  of_effect_follows (Traps kind) s w f g l h = inr (w, l, refl)
  of_effect_follows NoRule s w f g l h = inr refl

  taking_follows : (stack : List ℕ) (s : State V) (w : W) (f : ℕ → State V → Outcome V R) (g : ℕ → State W → Outcome W R) → Like s.world w → ((n : ℕ) → AllFollow calm Like (f n) (g n)) →
      Follows calm Like (taking stack s f) (taking stack (over (eased calm) s w) g)
  taking_follows [] s w f g l h = inr refl
  taking_follows (n ∷ below) s w f g l h = h n (on_stack s below) w l

  turns_follows : (m : ℕ) (f : State V → Outcome V R) (g : State W → Outcome W R) (height : ℕ) → AllFollow calm Like f g → AllFollow calm Like (turns m f height) (turns m g height)
  turns_follows zero f g height h s w l = inr refl
  turns_follows (suc m) f g height h s w l = of_loop_follows calm Like height (f s) (g (over (eased calm) s w)) (turns m f height) (turns m g height) (h s w l) (turns_follows m f g height h)

  chosen_follows : (b : Bool) (f1 f2 : State V → Outcome V R) (g1 g2 : State W → Outcome W R) → AllFollow calm Like f1 g1 → AllFollow calm Like f2 g2 → AllFollow calm Like (chosen b f1 f2) (chosen b g1 g2)
  chosen_follows true f1 f2 g1 g2 h k s w l = k s w l
  chosen_follows false f1 f2 g1 g2 h k s w l = h s w l

  target_follows : (r : Option (Result ℕ TrapKind)) (f : ℕ → State V → Outcome V R) (g : ℕ → State W → Outcome W R) → ((n : ℕ) → AllFollow calm Like (f n) (g n)) → AllFollow calm Like (target r f) (target r g)
  target_follows (Some (Ok n)) f g h s w l = h n s w l
  target_follows (Some (Err kind)) f g h s w l = inr (w, l, refl)
  target_follows None f g h s w l = inr refl

-- ---- bodies

module _ {V W R : Type 0} (calm : Bool) (Like : V → W → Type 0) (program : Program) (f : ℕ → State V → Outcome V R) (g : ℕ → State W → Outcome W R) (c : (n : ℕ) → AllFollow calm Like (f n) (g n)) where
  abbrev this : Expression → State V → Outcome V R
  this code = does program f code

  abbrev that : Expression → State W → Outcome W R
  that code = does program g code

  rest_follows : (code : Expression) → AllFollow calm Like (acts program f code) (acts program g code) → AllFollow calm Like (this code) (that code)
  rest_follows code h = starts_follows calm Like code (acts program f code) (acts program g code) h

  acts_follows : (code : Expression) → AllFollow calm Like (acts program f code) (acts program g code)
  acts_follows Over s w l = inr (w, l, refl)
  acts_follows (Plain i rest) s w l = of_effect_follows calm Like (effect i s.values) s w (this rest) (that rest) l (rest_follows rest (acts_follows rest))
  acts_follows (Block kind body rest) s w l =
      and_then_follows calm Like (of_block kind (length (stack_of s)) (this body s)) (of_block kind (length (stack_of s)) (that body (over (eased calm) s w))) (this rest) (that rest)
      (of_block_follows calm Like kind (length (stack_of s)) (this body s) (that body (over (eased calm) s w)) (rest_follows body (acts_follows body) s w l))
      (rest_follows rest (acts_follows rest))
  acts_follows (Loop kind body rest) s w l =
      and_then_follows calm Like (turns (suc s.left) (this body) (length (stack_of s)) s) (turns (suc s.left) (that body) (length (stack_of s)) (over (eased calm) s w)) (this rest) (that rest)
      (turns_follows calm Like (suc s.left) (this body) (that body) (length (stack_of s)) (rest_follows body (acts_follows body)) s w l)
      (rest_follows rest (acts_follows rest))
  acts_follows (If kind one two rest) s w l =
      let r = rest_follows rest (acts_follows rest) in
      let a = rest_follows one (acts_follows one) in
      let b = rest_follows two (acts_follows two) in
      taking_follows calm Like (stack_of s) s w _ _ l (λ test t u k. and_then_follows calm Like
      (of_block kind (length (stack_of t)) (chosen (low test == 0) (this one) (this two) t)) (of_block kind (length (stack_of t)) (chosen (low test == 0) (that one) (that two) (over (eased calm) t u))) (this rest) (that rest)
      (of_block_follows calm Like kind (length (stack_of t)) (chosen (low test == 0) (this one) (this two) t) (chosen (low test == 0) (that one) (that two) (over (eased calm) t u))
      (chosen_follows calm Like (low test == 0) (this one) (this two) (that one) (that two) a b t u k)) r)
  acts_follows (Br n rest) s w l = inr (w, l, refl)
  acts_follows (BrIf n rest) s w l =
      let r = rest_follows rest (acts_follows rest) in
      taking_follows calm Like (stack_of s) s w _ _ l (λ test t u k. and_then_follows calm Like
      (jump_unless (low test == 0) n t) (jump_unless (low test == 0) n (over (eased calm) t u)) (this rest) (that rest)
      (jump_follows R calm Like (low test == 0) n t u k) r)
  acts_follows (BrTable ns n rest) s w l = taking_follows calm Like (stack_of s) s w _ _ l (λ at t u k. inr (u, k, refl))
  acts_follows (Return rest) s w l = inr (w, l, refl)
  acts_follows (Call n rest) s w l = and_then_follows calm Like (f n s) (g n (over (eased calm) s w)) (this rest) (that rest) (c n s w l) (rest_follows rest (acts_follows rest))
  acts_follows (CallIndirect wanted rest) s w l =
      let r = rest_follows rest (acts_follows rest) in
      taking_follows calm Like (stack_of s) s w _ _ l (λ at t u k. and_then_follows calm Like
      (target (element program wanted (low at)) f t) (target (element program wanted (low at)) g (over (eased calm) t u)) (this rest) (that rest)
      (target_follows calm Like (element program wanted (low at)) f g c t u k) r)
  acts_follows (MemoryGrow rest) s w l =
      let r = rest_follows rest (acts_follows rest) in
      taking_follows calm Like (stack_of s) s w _ _ l (λ pages t u k. and_then_follows calm Like
      (grow (low pages) t) (grow (low pages) (over (eased calm) t u)) (this rest) (that rest)
      (grow_if_follows R calm Like (may_grow t.values.memory (low pages)) (low pages) t u k) r)

  does_follows : (code : Expression) → AllFollow calm Like (this code) (that code)
  does_follows code = rest_follows code (acts_follows code)

-- ---- calls

module _ {V W R : Type 0} (calm : Bool) (Like : V → W → Type 0) where
  reply_follows : (results : List ValueKind) (number : ℕ) (args below : List ℕ) (r : Reply V R) (q : Reply W R) (left : ℕ) (s : State V) (w : W) → Like s.world w → SameReply Like r q →
      Follows calm Like (of_reply results number args below r left s) (of_reply results number args below q left (over (eased calm) s w))
  reply_follows results number args below (value n v m) q left s w l (u, k, e) =
      subst (λ x. Follows calm Like (of_reply results number args below (value n v m) left s) (of_reply results number args below x left (over (eased calm) s w))) (sym e)
      (only_if_follows calm Like (not (gives_none results))
      (Normal (record s { world = v; left = left; environment = after_call s.environment; values = record s.values { stack = n ∷ below; memory = m } }))
      (Normal (record (over (eased calm) s w) { world = u; left = left; environment = after_call (eased calm s.environment); values = record s.values { stack = n ∷ below; memory = m } })) (inr (u, k, refl)))
  reply_follows results number args below (nothing v m) q left s w l (u, k, e) =
      subst (λ x. Follows calm Like (of_reply results number args below (nothing v m) left s) (of_reply results number args below x left (over (eased calm) s w))) (sym e)
      (only_if_follows calm Like (gives_none results)
      (Normal (record s { world = v; left = left; environment = after_call s.environment; values = record s.values { stack = below; memory = m } }))
      (Normal (record (over (eased calm) s w) { world = u; left = left; environment = after_call (eased calm s.environment); values = record s.values { stack = below; memory = m } })) (inr (u, k, refl)))
  reply_follows results number args below (exit v m) q left s w l (u, k, e) = inr (u, k, ap (λ x. of_reply results number args below x left (over (eased calm) s w)) e)
  reply_follows results number args below (refused r) q left s w l e = inr (w, l, ap (λ x. of_reply results number args below x left (over (eased calm) s w)) e)
  reply_follows results number args below step_limit q left s w l e = inr (w, l, ap (λ x. of_reply results number args below x left (over (eased calm) s w)) e)

module _ {V W R : Type 0} (Like : V → W → Type 0) where
  host_supplied_follows : (calm b : Bool) (number : ℕ) (args : List ℕ) (o : Outcome V R) (p : Outcome W R) (s : State V) (w : W) → Like s.world w → Follows calm Like o p →
      Follows calm Like (host_supplied b number args o s) (host_supplied (lacks_in calm b) number args p (over (eased calm) s w))
  host_supplied_follows false true number args o p s w l h = inr (w, l, refl)
  host_supplied_follows false false number args o p s w l h = h
  host_supplied_follows true true number args o p s w l h = inl (tt, (w, l))
  host_supplied_follows true false number args o p s w l h = h

module _ {V W R : Type 0} (calm : Bool) (Like : V → W → Type 0) (one : HostMeaning V R) (two : HostMeaning W R) (alike : ReplyAlike Like one two) where
  call_host_follows : (kind : FuncType) (number : ℕ) → AllFollow calm Like (call_host one kind number) (call_host two kind number)
  call_host_follows kind number s w l =
      let args = masked kind.params (arguments (length kind.params) (stack_of s)) in
      let below = drop (length kind.params) (stack_of s) in
      let a = alike s.world w number args s.values.memory s.left l in
      let o = one s.world number args s.values.memory s.left in
      let p = two w number args s.values.memory s.left in
      host_supplied_follows Like calm (s.environment.call_lacks s.environment.calls) number args (of_reply kind.results number args below o.reply o.left s)
      (of_reply kind.results number args below p.reply p.left (over (eased calm) s w)) s w l
      (subst (λ n. Follows calm Like (of_reply kind.results number args below o.reply o.left s) (of_reply kind.results number args below p.reply n (over (eased calm) s w))) a.1
      (reply_follows calm Like kind.results number args below o.reply p.reply o.left s w l a.0))

  of_function_follows : (f : FuncType → ℕ → Expression → State V → Outcome V R) (g : FuncType → ℕ → Expression → State W → Outcome W R) →
      ((kind : FuncType) (locals : ℕ) (body : Expression) → AllFollow calm Like (f kind locals body) (g kind locals body)) → (i : Option FunctionInstance) → AllFollow calm Like (of_function one f i) (of_function two g i)
  of_function_follows f g h (Some (Own kind locals body)) s w l =
      only_if_follows calm Like (nat_le (length kind.params) (length (stack_of s))) (f kind locals body s) (g kind locals body (over (eased calm) s w)) (h kind locals body s w l)
  of_function_follows f g h (Some (Given kind number)) s w l =
      only_if_follows calm Like (nat_le (length kind.params) (length (stack_of s))) (call_host one kind number s) (call_host two kind number (over (eased calm) s w)) (call_host_follows kind number s w l)
  of_function_follows f g h (Some Missing) s w l = inr refl
  of_function_follows f g h None s w l = inr refl

  pub call_follows : (program : Program) (free n : ℕ) → AllFollow calm Like (call one program free n) (call two program free n)
  call_follows program zero n = of_function_follows no_frame no_frame (λ kind locals body s w l. inr (w, l, refl)) (slice_get program.functions n)
  call_follows program (suc free) n =
      of_function_follows (call_own (does program (call one program free))) (call_own (does program (call two program free)))
      (λ kind locals body s w l. of_call_follows calm Like (result_of kind.results) s.values.locals (drop (length kind.params) (stack_of s))
      (does program (call one program free) body (entered kind locals s)) (does program (call two program free) body (entered kind locals (over (eased calm) s w)))
      (does_follows calm Like program (call one program free) (call two program free) (call_follows program free) body (entered kind locals s) w l))
      (slice_get program.functions n)

  pub invoked_follows : (program : Program) (free n : ℕ) → AllFollow calm Like (invoked one program free n) (invoked two program free n)
  invoked_follows program free n s w l = supplied_follows Like calm (s.environment.item_lacks s.environment.items) s w (λ t. settled (call one program free n t)) (λ t. settled (call two program free n t)) l
      (λ t u k. settled_follows calm Like (call one program free n t) (call two program free n (over (eased calm) t u)) (call_follows program free n t u k))

  -- ---- whole runs

  start_follows : (program : Program) (f : Option ℕ) → AllFollow calm Like (start_runs one program f) (start_runs two program f)
  start_follows program None s w l = inr (w, l, refl)
  start_follows program (Some f) s w l = invoked_follows program most_frames f (with_arguments [] s) w l

  apply_follows : (program : Program) (f : Option ℕ) (args : List ℕ) → AllFollow calm Like (apply_runs one program f args) (apply_runs two program f args)
  apply_follows program None args s w l = inr refl
  apply_follows program (Some f) args s w l = invoked_follows program most_frames f (with_arguments args s) w l

  both_follows : (m : Tree) (args : List ℕ) → AllFollow calm Like (both_run one (program_in m) m args) (both_run two (program_in m) m args)
  both_follows m args s w l =
      and_then_follows calm Like (start_runs one (program_in m) m.start s) (start_runs two (program_in m) m.start (over (eased calm) s w)) (apply_runs one (program_in m) (apply_in m) args) (apply_runs two (program_in m) (apply_in m) args)
      (start_follows (program_in m) m.start s w l) (apply_follows (program_in m) (apply_in m) args)

  where_follows : (b : Bool) (m : Tree) (args : List ℕ) → AllFollow calm Like (where_fit b (both_run one (program_in m) m args)) (where_fit b (both_run two (program_in m) m args))
  where_follows true m args s w l = both_follows m args s w l
  where_follows false m args s w l = inr (w, l, refl)

  pub run_follows : (m : Tree) (args : List ℕ) (v : V) (w : W) (left : ℕ) (environment : Environment) → Like v w →
      Follows calm Like (run_of one m args v left environment) (run_of two m args w left (eased calm environment))
  run_follows m args v w left environment l =
      supplied_follows Like calm (environment.item_lacks environment.items) (outset_of m v left environment) w (where_fit (segments_fit m) (both_run one (program_in m) m args)) (where_fit (segments_fit m) (both_run two (program_in m) m args)) l
      (where_follows (segments_fit m) m args)

-- ---- the two laws

module _ {V W R : Type 0} (Like : V → W → Type 0) where
  same_of : (o : Outcome V R) (p : Outcome W R) → Follows false Like o p → SameOutcome (λ e. e) Like o p
  same_of o p (inl d) = absurd d.0
  same_of o p (inr h) = h

  calm_of : (o : Outcome V R) (p : Outcome W R) → Follows true Like o p → Disturbed Like o ⊎ SameOutcome calm_from Like o p
  calm_of o p (inl d) = inl d.1
  calm_of o p (inr h) = inr h

pub run_alike : {V W R : Type 0} (Like : V → W → Type 0) (one : HostMeaning V R) (two : HostMeaning W R) → ReplyAlike Like one two → RunAlike Like one two
run_alike Like one two alike m args v w left environment l =
    same_of Like (run_of one m args v left environment) (run_of two m args w left environment) (run_follows false Like one two alike m args v w left environment l)

pub run_undisturbed : {V W R : Type 0} (Like : V → W → Type 0) (one : HostMeaning V R) (two : HostMeaning W R) → ReplyAlike Like one two → RunUndisturbed Like one two
run_undisturbed Like one two alike m args v w left environment l =
    calm_of Like (run_of one m args v left environment) (run_of two m args w left (calm_from environment)) (run_follows true Like one two alike m args v w left environment l)
