-- Stretches of instructions: what the next one leads to, and what one stretch after another does.
use Rattle.std.proofs.Common.{◌≡◌, ℕ, zero, suc, ◌+◌, ◌-◌, ◌<◌, ◌≤◌, false, List, [], ◌∷◌, ◌++◌, replicate, Option, None, Some, refl, sym, ap, subst, ◌∙◌, arith}
use Rattle.std.specs.Prelude.{◌%◌}
use Rattle.std.proofs.lemmas.Bool.{ltb-true}
use Rattle.std.proofs.lemmas.List.{replicate-append-replicate}
use Rattle.ante_base.specs.Stops.{Looks}
use Rattle.ante_wmem.specs.Linear.{LinearMemory}
use Rattle.ante_wmem.specs.HostCalls.{HostMeaning}
use Rattle.ante_wtree.specs.declared.instructions.Instr.{Instr}
use Rattle.ante_wtree.specs.declared.instructions.PlainInstr.{PlainInstr}
use Rattle.ante_wtree.specs.Expressions.{expression_of, cons}
use Rattle.ante_wtree.specs.Limits.{round_steps}
use Rattle.ante_wmeaning.specs.declared.ends.TrapKind.{TrapKind}
use Rattle.ante_wmeaning.specs.declared.ends.RunEnd.TheVariants as end
use Rattle.ante_wvalues.specs.declared.instructions.Tried.TheVariants as tried
use Rattle.ante_wrun.specs.declared.blocks.Frame.{Frame}
use Rattle.ante_wrun.specs.declared.thread.Thread.{Thread}
use Rattle.ante_wmeaning.specs.PlainInstructions.{Values, effect}
use Rattle.ante_wmeaning.specs.Environment.{Environment, after_item}
use Rattle.ante_wmeaning.specs.Configurations.{Program, State, Outcome}
use Rattle.ante_wmeaning.specs.Execution.{of_effect, seen, due, round, acts, does, call}
use Rattle.ante_wvalues.specs.FrameValues.{FrameValues}
use Rattle.ante_wvalues.specs.PlainSteps.{values_in, TriesPlain, Ready, plain_of}
use Rattle.ante_wrun.specs.ThreadStates.{goes, state_of, under, going}
use Rattle.ante_wmeaning.specs.RunEnds.{Stops}
use Rattle.ante_wmeaning.specs.Environment.{Event, Supplied, Begins, past, looks_of, ByEvents, Calm}
use Rattle.ante_wmeaning.specs.RunEnds.{NotStuck, Sound}
use Rattle.ante_wrun.specs.Stretches.{stepping, WithoutLooks, CodeLeads, StretchLeads}
use Rattle.ante_wrun.proofs.Calls.{ended}
use Rattle.ante_wvalues.proofs.Plains.{plain_put, was_done, was_trapped, effect_of, same_values}
use Rattle.ante_wrun.proofs.Rules.{has_operands, has_place, inner}
use Rattle.ante_wrun.proofs.Turning.{starts_put, pay_paid, begins-front, begins-back, past-append, more_events}

-- ---- steps

not_due : (left : ℕ) → 0 < left % round_steps → due left (suc left) ≡ false
not_due left r = let le : round (suc left) ≤ round left = omega (arith, r) in grind (arith, le, ltb-true)

module _ {W R : Type 0} (host : HostMeaning W R) (program : Program) (free : ℕ) (frames : List Frame) (w : W) where
  -- the outcome of the whole, where this instruction's step is paid
  abbrev pub acting : Instr → List Instr → FrameValues → State W → Outcome W R
  acting i rest v s = under host program free v.below frames (acts program (call host program free) (cons i (expression_of rest)) s)

  pub paid_step : (i : Instr) (rest : List Instr) (v : FrameValues) (g : List ℕ) (m : LinearMemory) (left : ℕ) (o : Environment) → 0 < left % round_steps → o.item_lacks o.items ≡ false →
      goes host program free frames (i ∷ rest) v (stepping v g m w left o) ≡ acting i rest v (stepping v g m w (left - 1) (after_item o))
  paid_step i rest v g m left o r h =
      let s = stepping v g m w left o in
      let first = acts program (call host program free) (cons i (expression_of rest)) in
      let n = left - 1 in
      let e : left ≡ suc n = omega (arith, r) in
      ap (under host program free v.below frames)
      (starts_put i (expression_of rest) first s
      ∙ ap (λ b. seen b (o.look_answer o.looks) s first) (not_due left r)
      ∙ pay_paid s first n left e h
      ∙ ap (λ k. first (record s { left = n; last = k; environment = after_item o })) e)

  module _ (i : Instr) (rest : List Instr) (v : FrameValues) (g : List ℕ) (m : LinearMemory) (left : ℕ) (o : Environment) where
    abbrev here : State W
    here = stepping v g m w left o

    as_plain : (op : PlainInstr) → plain_of i ≡ Some op → acting i rest v here ≡ under host program free v.below frames (of_effect (effect op (values_in v g m)) here (does program (call host program free) (expression_of rest)))
    as_plain op e = ap (λ x. under host program free v.below frames (acts program (call host program free) x here)) (plain_put i op (expression_of rest) e)

    ready : NotStuck (acting i rest v here) → Ready (plain_of i) (values_in v g m)
    ready h = by_kind (plain_of i) refl
      where
        by_kind : (q : Option PlainInstr) → plain_of i ≡ q → Ready q (values_in v g m)
        by_kind None e = tt
        by_kind (Some op) e =
            let runs = inner host program free v.below frames _ (subst NotStuck (as_plain op e) h) in
            (has_operands op (values_in v g m) here _ runs, has_place op (values_in v g m) here _ runs)

    pub done_leads : (v' : FrameValues) (g' : List ℕ) (m' : LinearMemory) → Ready (plain_of i) (values_in v g m) →
        TriesPlain (plain_of i) tried.Done (values_in v g m) (values_in v' g' m') → v'.below ≡ v.below →
        acting i rest v here ≡ goes host program free frames rest v' (stepping v' g' m' w left o)
    done_leads v' g' m' r t b =
        let d = was_done (plain_of i) (values_in v g m) (values_in v' g' m') t in
        let so = effect_of d.0 (values_in v g m) (subst (λ q. Ready q (values_in v g m)) d.1 r) ∙ d.2 in
        as_plain d.0 d.1
        ∙ ap (λ x. under host program free v.below frames (of_effect x here (does program (call host program free) (expression_of rest)))) so
        ∙ ap (λ x. under host program free x frames (does program (call host program free) (expression_of rest) (stepping v' g' m' w left o))) (sym b)

    pub trap_leads : (kind : TrapKind) (new : Values) → Ready (plain_of i) (values_in v g m) →
        TriesPlain (plain_of i) (tried.Trap kind) (values_in v g m) new → Stops (end.Trap kind) w left o (acting i rest v here)
    trap_leads kind new r t =
        let d = was_trapped (plain_of i) kind (values_in v g m) new t in
        let so = effect_of d.0 (values_in v g m) (subst (λ q. Ready q (values_in v g m)) d.1 r) ∙ d.2 in (
          here,
          as_plain d.0 d.1
              ∙ ap (λ x. under host program free v.below frames (of_effect x here (does program (call host program free) (expression_of rest)))) so
              ∙ ended host program free v.below frames (end.Trap kind) here,
          refl,
          refl,
          refl,
        )

  -- ---- the next instruction

  module _ (code : List Instr) (i : Instr) (rest : List Instr) (v : FrameValues) (g : List ℕ) (m : LinearMemory) (left : ℕ) (is : code ≡ i ∷ rest) (r : 0 < left % round_steps) where
    paid : (o : Environment) → o.item_lacks o.items ≡ false → goes host program free frames code v (stepping v g m w left o) ≡ acting i rest v (stepping v g m w (left - 1) (after_item o))
    paid o h = ap (λ c. goes host program free frames c v (stepping v g m w left o)) is ∙ paid_step i rest v g m left o r h

    pub next_sound : Sound (λ o. goes host program free frames code v (stepping v g m w left o)) → (o : Environment) × NotStuck (acting i rest v (stepping v g m w (left - 1) o))
    next_sound s = (after_item s.0, subst NotStuck (paid s.0 (s.1.1 s.0.items)) s.2)

    pub ready_next : Sound (λ o. goes host program free frames code v (stepping v g m w left o)) → Ready (plain_of i) (values_in v g m)
    ready_next s = let n = next_sound s in ready i rest v g m (left - 1) n.0 n.1

    pub one_quiet : (Q : Outcome W R → Environment → Type 0) → ((o : Environment) → Q (acting i rest v (stepping v g m w (left - 1) o)) o) →
        WithoutLooks (λ events. (o : Environment) → Begins o events → Q (goes host program free frames code v (stepping v g m w left o)) (past o events))
    one_quiet Q h = (1, λ o b. subst (λ x. Q x (after_item o)) (sym (paid o b.0)) (h (after_item o)))

-- what holds of values holds where nothing was done to them
pub still : (v v' : FrameValues) (g g' : List ℕ) (m m' : LinearMemory) → values_in v' g' m' ≡ values_in v g m → v'.below ≡ v.below →
    (F : FrameValues → List ℕ → LinearMemory → Type 0) → F v g m → F v' g' m'
still v v' g g' m m' e b F h =
    let same : v ≡ v' = sym (same_values v v' g g' m m' e b) in
    let globals : g ≡ g' = sym (ap (λ (x : Values). x.globals) e) in
    let memory : m ≡ m' = sym (ap (λ (x : Values). x.memory) e) in
    subst (λ x. F x g' m') same (subst (λ x. F v x m') globals (subst (λ x. F v g x) memory h))

pub stayed : (v v' : FrameValues) (g g' : List ℕ) (m m' : LinearMemory) → (v' ≡ v) × (g' ≡ g) × (m' ≡ m) → (F : FrameValues → List ℕ → LinearMemory → Type 0) → F v g m → F v' g' m'
stayed v v' g g' m m' e F h = subst (λ x. F x g' m') (sym e.0) (subst (λ x. F v x m') (sym e.1) (subst (λ x. F v g x) (sym e.2) h))

-- ---- one stretch after another

-- steps are left in the round
pub in_round : (left most steps : ℕ) → most ≤ left % round_steps → steps < most → 0 < (left - steps) % round_steps
in_round left most steps le lt = omega (arith, le, lt)

pub one_more : (left most steps : ℕ) → most ≤ left % round_steps → steps < most → left - steps - 1 ≡ left - (steps + 1)
one_more left most steps le lt = omega arith

module _ {W R : Type 0} (host : HostMeaning W R) (program : Program) where
  -- a stretch, as the thread has it
  pub as_thread : (t : Thread) (trap : Option TrapKind) (w : W) (n last : ℕ) (u : Environment) (x y : Outcome W R) → x ≡ y → last ≡ suc n →
      CodeLeads host program t.free t.frames y trap t.code.now t.state.values (stepping t.state.values t.state.globals.items t.state.memory w n u) → StretchLeads host program x trap t w n last u
  as_thread t None w n last u x y e l h = e ∙ h ∙ ap (λ k. going host program t (state_of t.state w n k u)) (sym l)
  as_thread t (Some kind) w n last u x y e l h = subst (Stops (end.Trap kind) w n u) (sym e) h

module _ {W R : Type 0} where
  pub more_quiet : (F A : Environment → Outcome W R) (Q : Outcome W R → Environment → Type 0) →
      WithoutLooks (λ events. (v : Environment) → Begins v events → F v ≡ A (past v events)) →
      WithoutLooks (λ events. (u : Environment) → Begins u events → Q (A u) (past u events)) →
      WithoutLooks (λ events. (v : Environment) → Begins v events → Q (F v) (past v events))
  more_quiet F A Q h k =
      let xs : List Event = replicate h.0 Supplied in
      let ys : List Event = replicate k.0 Supplied in
      let both : xs ++ ys ≡ replicate (h.0 + k.0) Supplied = replicate-append-replicate h.0 k.0 Supplied in (
        h.0 + k.0,
        subst (λ events. (v : Environment) → Begins v events → Q (F v) (past v events)) both
            (λ v b.
            let e = h.1 v (begins-front xs ys v b) in
            let q = k.1 (past v xs) (begins-back xs ys v b) in
            subst (λ x. Q (F v) x) (sym (past-append xs ys v)) (subst (λ o. Q o (past (past v xs) ys)) (sym e) q)),
      )

calm_begins : (n : ℕ) (v : Environment) → Calm v → Begins v (replicate n Supplied)
calm_begins zero v h = tt
calm_begins (suc n) v h = (h.1 v.items, calm_begins n (after_item v) h)

calm_past : (n : ℕ) (v : Environment) → Calm v → Calm (past v (replicate n Supplied))
calm_past zero v h = h
calm_past (suc n) v h = calm_past n (after_item v) h

pub same_sound : {W R : Type 0} (F A : Environment → Outcome W R) → ((v : Environment) → F v ≡ A v) → Sound F → Sound A
same_sound F A e s = (s.0, s.1, subst NotStuck (e s.0) s.2)

pub quiet_from : {W R : Type 0} (F A : Environment → Outcome W R) (Q : Outcome W R → Environment → Type 0) → ((v : Environment) → F v ≡ A v) →
    WithoutLooks (λ events. (v : Environment) → Begins v events → Q (A v) (past v events)) → WithoutLooks (λ events. (v : Environment) → Begins v events → Q (F v) (past v events))
quiet_from F A Q e h = (h.0, λ v b. subst (λ x. Q x (past v (replicate h.0 Supplied))) (sym (e v)) (h.1 v b))

pub sound_after : {W R : Type 0} (F A : Environment → Outcome W R) → Sound F → WithoutLooks (λ events. (v : Environment) → Begins v events → F v ≡ A (past v events)) → Sound A
sound_after F A s h = (past s.0 (replicate h.0 Supplied), calm_past h.0 s.0 s.1, subst NotStuck (h.1 s.0 (calm_begins h.0 s.0 s.1)) s.2)

no_looks : (n : ℕ) → looks_of (replicate n Supplied) ≡ []
no_looks zero = refl
no_looks (suc n) = no_looks n

by_events : {S : Type 0} (may : S → Option ℕ → S → Type 0) (stop : S) (holds : List Event → Type 0) → WithoutLooks holds → ByEvents may stop stop holds
by_events may stop holds h = (replicate h.0 Supplied, subst (λ ls. Looks may stop ls stop) (sym (no_looks h.0)) refl, h.1)

-- a stretch after what the run did before
pub then_quiet : {S W R : Type 0} (may : S → Option ℕ → S → Type 0) (old mid : S) (F A : Environment → Outcome W R) (Q : Outcome W R → Environment → Type 0) →
    ByEvents may old mid (λ events. (v : Environment) → Begins v events → F v ≡ A (past v events)) →
    WithoutLooks (λ events. (u : Environment) → Begins u events → Q (A u) (past u events)) →
    ByEvents may old mid (λ events. (v : Environment) → Begins v events → Q (F v) (past v events))
then_quiet may old mid F A Q h k = more_events may old mid mid F A Q h (by_events may mid _ k)
