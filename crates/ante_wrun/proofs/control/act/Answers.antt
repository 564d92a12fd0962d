use Rattle.std.proofs.Common.{◌≡◌, false, length, refl, sym, ap, subst, ◌∙◌, arith}
use Rattle.std.specs.Prelude.{◌==◌, slice_index_or}
use Rattle.std.proofs.lemmas.Bool.{eqb-true}
use Rattle.ante_wtree.specs.Expressions.{Over, expression_of}
use Rattle.ante_wmeaning.specs.declared.ends.RunEnd.TheVariants as end
use Rattle.ante_wvalues.specs.declared.instructions.Tried.TheVariants as tried
use Rattle.ante_wmeaning.specs.PlainInstructions.{low, top, popped}
use Rattle.ante_wmeaning.specs.Configurations.{Branch, on_stack}
use Rattle.ante_wmeaning.specs.Execution.{and_then, of_effect, jump_unless, element, acts, call}
use Rattle.ante_wvalues.specs.PlainSteps.{values_of, Ready, TriesPlain, plain_at, plain_of}
use Rattle.ante_wrun.specs.ThreadStates.{state_of, rest_of, under, whole, Reaches}
use Rattle.ante_wrun.specs.Control.{program_of, Leads}
use Rattle.ante_wrun.proofs.Calls.{if_ok, ended}
use Rattle.ante_wmeaning.specs.RunEnds.{NotStuck}
use Rattle.ante_wrun.proofs.Rules.{first_runs, has_operands, has_place, effect_is, reaches, returns, callable, leaves, alone, begins, operand, BrIf_is, BrTable_is, CallIndirect_is, MemoryGrow_is}
use Rattle.ante_wrun.proofs.control.act.Goals as goal

-- the instruction is plain, and ready
pub plain_with_room-requires : goal.plain_with_room-requires
plain_with_room-requires g c =
    let P = program_of c.args.functions.now in
    let t = c.args.thread.now in
    let q = c.requires.sound in
    let s0 = state_of t.state q.0 c.args.left.now q.1 q.2 in
    let is = c.in-Plain.ensures (expression_of t.code.now) in
    let runs = alone g.H.Host.meaning P t _ (begins g.H.Host.meaning P t _ _ s0 is q.3) in
    record {
      ready = subst (λ o. Ready o (values_of t.state)) (sym (ap plain_at (c.in-Plain.ensures Over)))
          (has_operands c.in-Plain.field-0 (values_of t.state) s0 _ runs, has_place c.in-Plain.field-0 (values_of t.state) s0 _ runs);
    }

pub returns-in-Trap-clause-leads : goal.returns-in-Trap-clause-leads
returns-in-Trap-clause-leads g c = λ w last environment.
    let P = program_of c.args.functions.now in
    let t = c.args.thread.now in
    let q = c.requires.sound in
    let s0 = state_of t.state q.0 c.args.left.now q.1 q.2 in
    let so = effect_is c.in-Plain.field-0 (values_of t.state) s0 _ (alone g.H.Host.meaning P t _ (begins g.H.Host.meaning P t _ _ s0 (c.in-Plain.ensures (expression_of t.code.now)) q.3)) in
    let s = state_of t.state w c.args.left.now last environment in
    let m = under g.H.Host.meaning P t.free t.state.values.below in
    let e = ap (λ x. whole g.H.Host.meaning P t (acts P (call g.H.Host.meaning P t.free) x s)) (c.in-Plain.ensures (expression_of t.code.now)) in
    let d = subst (λ o. TriesPlain o (tried.Trap c.in-Trap.kind) (values_of t.state) (values_of c.plain_with_room.new.state)) (ap plain_at (c.in-Plain.ensures Over))
    (subst (λ r. TriesPlain (plain_of c.args.instr.now) r (values_of t.state) (values_of c.plain_with_room.new.state)) c.in-Trap.is c.plain_with_room.ensures.effect) in (
      s,
      e ∙ ap (λ x. m t.frames (of_effect x s (rest_of g.H.Host.meaning P t))) (so ∙ d.0) ∙ ended g.H.Host.meaning P t.free t.state.values.below t.frames (end.Trap c.in-Trap.kind) s,
      refl,
      refl,
      refl,
    )

pub begin-requires-clause-sound : goal.begin-requires-clause-sound
begin-requires-clause-sound g c =
    let P = program_of c.args.functions.now in
    let t = c.args.thread.now in
    let q = c.requires.sound in
    (P, q.0, c.args.left.now, q.1, q.2, begins g.H.Host.meaning P t _ _ (state_of t.state q.0 c.args.left.now q.1 q.2) (c.shape_of-shape.ensures (expression_of t.code.now)) q.3)

pub returns-in-Block-clause-leads : goal.returns-in-Block-clause-leads
returns-in-Block-clause-leads g c =
    let P = program_of c.args.functions.now in
    let t = c.args.thread.now in
    if_ok c.begin.result _ _
    (λ next h w last environment.
    subst (λ o. Leads g.H.Host.meaning P o next c.begin.new.thread w c.args.left.now last environment)
    (sym (ap (λ x. whole g.H.Host.meaning P t (acts P (call g.H.Host.meaning P t.free) x (state_of t.state w c.args.left.now last environment))) (c.shape_of-shape.ensures (expression_of t.code.now))))
    (h P w c.args.left.now last environment))
    c.begin.ensures.leads

pub returns-else-low-eq0-clause-leads : goal.returns-else-low-eq0-clause-leads
returns-else-low-eq0-clause-leads g c = λ w last environment.
    let P = program_of c.args.functions.now in
    let t = c.args.thread.now in
    let q = c.requires.sound in
    let s0 = state_of t.state q.0 c.args.left.now q.1 q.2 in
    let lt = operand g.H.Host.meaning P t _ _ s0 _ (c.in-BrIf.ensures (expression_of t.code.now)) refl q.3 in
    let s = state_of t.state w c.args.left.now last environment in
    let m = under g.H.Host.meaning P t.free t.state.values.below in
    let e = ap (λ x. whole g.H.Host.meaning P t (acts P (call g.H.Host.meaning P t.free) x s)) (c.in-BrIf.ensures (expression_of t.code.now)) in
    let n : low (top t.state.values.stack) ≡ c.low.result = sym (c.low.ensures ∙ ap low c.pop.ensures.value) in
    let taken : (low (top t.state.values.stack) == 0) ≡ false = ap (λ k. k == 0) n ∙ grind (arith, eqb-true, c.if-low-eq0.false) in
    e ∙ ap (whole g.H.Host.meaning P t) (BrIf_is P (call g.H.Host.meaning P t.free) s lt c.in-BrIf.depth (expression_of t.code.now)) ∙ ap (λ b. whole g.H.Host.meaning P t (and_then (jump_unless b c.in-BrIf.depth (on_stack s (popped t.state.values.stack))) (rest_of g.H.Host.meaning P t))) taken
    ∙ ap (λ v. under g.H.Host.meaning P t.free v.below t.frames (Branch c.in-BrIf.depth (state_of (record t.state { values = v }) w c.args.left.now last environment))) (sym c.pop.ensures.rest)
    ∙ c.branch-thread-in-BrIf.ensures.whole P w c.args.left.now last environment

pub returns-in-BrTable-clause-leads : goal.returns-in-BrTable-clause-leads
returns-in-BrTable-clause-leads g c = λ w last environment.
    let P = program_of c.args.functions.now in
    let t = c.args.thread.now in
    let q = c.requires.sound in
    let s0 = state_of t.state q.0 c.args.left.now q.1 q.2 in
    let lt = operand g.H.Host.meaning P t _ _ s0 _ (c.in-BrTable.ensures (expression_of t.code.now)) refl q.3 in
    let s = state_of t.state w c.args.left.now last environment in
    let m = under g.H.Host.meaning P t.free t.state.values.below in
    let e = ap (λ x. whole g.H.Host.meaning P t (acts P (call g.H.Host.meaning P t.free) x s)) (c.in-BrTable.ensures (expression_of t.code.now)) in
    let n : low (top t.state.values.stack) ≡ c.low-at.result = sym (c.low-at.ensures ∙ ap low c.pop-in-BrTable.ensures.value) in
    e ∙ ap (whole g.H.Host.meaning P t) (BrTable_is P (call g.H.Host.meaning P t.free) s lt c.in-BrTable.labels.now c.in-BrTable.last (expression_of t.code.now)) ∙ ap (λ k. m t.frames (Branch k (on_stack s (popped t.state.values.stack)))) (ap (λ at. slice_index_or c.in-BrTable.labels.now at c.in-BrTable.last) n ∙ sym c.label-depth.ensures)
    ∙ ap (λ v. under g.H.Host.meaning P t.free v.below t.frames (Branch c.label-depth.result (state_of (record t.state { values = v }) w c.args.left.now last environment))) (sym c.pop-in-BrTable.ensures.rest)
    ∙ c.branch-thread-in-BrTable.ensures.whole P w c.args.left.now last environment

pub returns-in-Call-clause-leads : goal.returns-in-Call-clause-leads
returns-in-Call-clause-leads g c =
    let P = program_of c.args.functions.now in
    let t = c.args.thread.now in
    if_ok c.call_function.result _ _
    (λ next h w last environment.
    subst (λ o. Leads g.H.Host.meaning P o next c.call_function.new.thread w c.args.left.now last environment)
    (sym (ap (λ x. whole g.H.Host.meaning P t (acts P (call g.H.Host.meaning P t.free) x (state_of t.state w c.args.left.now last environment))) (c.in-Call.ensures (expression_of t.code.now))))
    (h w c.args.left.now last environment))
    c.call_function.ensures.leads

pub returns-in-CallIndirect-clause-leads : goal.returns-in-CallIndirect-clause-leads
returns-in-CallIndirect-clause-leads g c =
    let P = program_of c.args.functions.now in
    let t = c.args.thread.now in
    let q = c.requires.sound in
    let s0 = state_of t.state q.0 c.args.left.now q.1 q.2 in
    let lt = operand g.H.Host.meaning P t _ _ s0 _ (c.in-CallIndirect.ensures (expression_of t.code.now)) refl q.3 in
    if_ok c.call_indirect.result _ _
    (λ next h w last environment.
    subst (λ o. Leads g.H.Host.meaning P o next c.call_indirect.new.thread w c.args.left.now last environment)
    (sym (ap (λ x. whole g.H.Host.meaning P t (acts P (call g.H.Host.meaning P t.free) x (state_of t.state w c.args.left.now last environment))) (c.in-CallIndirect.ensures (expression_of t.code.now)) ∙ ap (whole g.H.Host.meaning P t) (CallIndirect_is P (call g.H.Host.meaning P t.free) (state_of t.state w c.args.left.now last environment) lt c.in-CallIndirect.kind (expression_of t.code.now))))
    (h w c.args.left.now last environment))
    c.call_indirect.ensures.leads

pub returns-in-MemoryGrow-clause-leads : goal.returns-in-MemoryGrow-clause-leads
returns-in-MemoryGrow-clause-leads g c =
    let P = program_of c.args.functions.now in
    let t = c.args.thread.now in
    let q = c.requires.sound in
    let s0 = state_of t.state q.0 c.args.left.now q.1 q.2 in
    let lt = operand g.H.Host.meaning P t _ _ s0 _ (c.in-MemoryGrow.ensures (expression_of t.code.now)) refl q.3 in
    if_ok c.grow.result _ _
    (λ next h w last environment.
    subst (λ o. Leads g.H.Host.meaning P o next c.grow.new.thread w c.grow.new.left last environment)
    (sym (ap (λ x. whole g.H.Host.meaning P t (acts P (call g.H.Host.meaning P t.free) x (state_of t.state w c.args.left.now last environment))) (c.in-MemoryGrow.ensures (expression_of t.code.now)) ∙ ap (whole g.H.Host.meaning P t) (MemoryGrow_is P (call g.H.Host.meaning P t.free) (state_of t.state w c.args.left.now last environment) lt (expression_of t.code.now))))
    (h P w last environment))
    c.grow.ensures.leads

pub returns-in-Done-clause-leads : goal.returns-in-Done-clause-leads
returns-in-Done-clause-leads g c = λ w last environment.
    let P = program_of c.args.functions.now in
    let t = c.args.thread.now in
    let q = c.requires.sound in
    let s0 = state_of t.state q.0 c.args.left.now q.1 q.2 in
    let is = c.in-Plain.ensures (expression_of t.code.now) in
    let s = state_of t.state w c.args.left.now last environment in
    let so = effect_is c.in-Plain.field-0 (values_of t.state) s0 _ (alone g.H.Host.meaning P t _ (begins g.H.Host.meaning P t _ _ s0 is q.3)) in
    let d = subst (λ o. TriesPlain o tried.Done (values_of t.state) (values_of c.plain_with_room.new.state)) (ap plain_at (c.in-Plain.ensures Over))
    (subst (λ r. TriesPlain (plain_of c.args.instr.now) r (values_of t.state) (values_of c.plain_with_room.new.state)) c.in-Done.is c.plain_with_room.ensures.effect) in
    ap (λ x. whole g.H.Host.meaning P t (acts P (call g.H.Host.meaning P t.free) x s)) is
    ∙ ap (λ x. whole g.H.Host.meaning P t (of_effect x s (rest_of g.H.Host.meaning P t))) (so ∙ d)
    ∙ ap (λ b. under g.H.Host.meaning P t.free b t.frames (rest_of g.H.Host.meaning P t (state_of c.plain_with_room.new.state w c.args.left.now last environment))) (sym c.plain_with_room.ensures.below)

pub returns-then-low-eq0-clause-leads : goal.returns-then-low-eq0-clause-leads
returns-then-low-eq0-clause-leads g c = λ w last environment.
    let P = program_of c.args.functions.now in
    let t = c.args.thread.now in
    let q = c.requires.sound in
    let s0 = state_of t.state q.0 c.args.left.now q.1 q.2 in
    let is = c.in-BrIf.ensures (expression_of t.code.now) in
    let lt = operand g.H.Host.meaning P t _ _ s0 _ is refl q.3 in
    let s = state_of t.state w c.args.left.now last environment in
    let n : low (top t.state.values.stack) ≡ c.low.result = sym (c.low.ensures ∙ ap low c.pop.ensures.value) in
    ap (λ x. whole g.H.Host.meaning P t (acts P (call g.H.Host.meaning P t.free) x s)) is
    ∙ ap (whole g.H.Host.meaning P t) (BrIf_is P (call g.H.Host.meaning P t.free) s lt c.in-BrIf.depth (expression_of t.code.now))
    ∙ ap (λ k. whole g.H.Host.meaning P t (and_then (jump_unless (k == 0) c.in-BrIf.depth (on_stack s (popped t.state.values.stack))) (rest_of g.H.Host.meaning P t))) (n ∙ c.if-low-eq0.true)
    ∙ ap (λ v. under g.H.Host.meaning P t.free v.below t.frames (rest_of g.H.Host.meaning P t (state_of (record t.state { values = v }) w c.args.left.now last environment))) (sym c.pop.ensures.rest)

pub pop-requires : goal.pop-requires
pop-requires g c =
    let P = program_of c.args.functions.now in
    let t = c.args.thread.now in
    let q = c.requires.sound in
    let s0 = state_of t.state q.0 c.args.left.now q.1 q.2 in
    let is = c.in-BrIf.ensures (expression_of t.code.now) in
    operand g.H.Host.meaning P t _ _ s0 _ is refl q.3

pub pop-requires-in-BrTable : goal.pop-requires-in-BrTable
pop-requires-in-BrTable g c =
    let P = program_of c.args.functions.now in
    let t = c.args.thread.now in
    let q = c.requires.sound in
    let s0 = state_of t.state q.0 c.args.left.now q.1 q.2 in
    let is = c.in-BrTable.ensures (expression_of t.code.now) in
    operand g.H.Host.meaning P t _ _ s0 _ is refl q.3

pub grow-requires-clause-room : goal.grow-requires-clause-room
grow-requires-clause-room g c =
    let P = program_of c.args.functions.now in
    let t = c.args.thread.now in
    let q = c.requires.sound in
    let s0 = state_of t.state q.0 c.args.left.now q.1 q.2 in
    let is = c.in-MemoryGrow.ensures (expression_of t.code.now) in
    operand g.H.Host.meaning P t _ _ s0 _ is refl q.3

pub call_indirect-requires-clause-room : goal.call_indirect-requires-clause-room
call_indirect-requires-clause-room g c =
    let P = program_of c.args.functions.now in
    let t = c.args.thread.now in
    let q = c.requires.sound in
    let s0 = state_of t.state q.0 c.args.left.now q.1 q.2 in
    let is = c.in-CallIndirect.ensures (expression_of t.code.now) in
    operand g.H.Host.meaning P t _ _ s0 _ is refl q.3

pub branch-thread-requires-clause-reaches : goal.branch-thread-requires-clause-reaches
branch-thread-requires-clause-reaches g c =
    let P = program_of c.args.functions.now in
    let t = c.args.thread.now in
    let q = c.requires.sound in
    let s0 = state_of t.state q.0 c.args.left.now q.1 q.2 in
    let is = c.in-Br.ensures (expression_of t.code.now) in
    reaches g.H.Host.meaning P t.free t.state.values.below t.frames c.in-Br.depth s0 (begins g.H.Host.meaning P t _ _ s0 is q.3)

pub leave-requires-clause-returns : goal.leave-requires-clause-returns
leave-requires-clause-returns g c =
    let P = program_of c.args.functions.now in
    let t = c.args.thread.now in
    let q = c.requires.sound in
    let s0 = state_of t.state q.0 c.args.left.now q.1 q.2 in
    let is = c.in-Return.ensures (expression_of t.code.now) in
    returns g.H.Host.meaning P t.free t.state.values.below t.frames s0 (begins g.H.Host.meaning P t _ _ s0 is q.3)

pub call_function-requires-clause-takes : goal.call_function-requires-clause-takes
call_function-requires-clause-takes g c =
    let P = program_of c.args.functions.now in
    let t = c.args.thread.now in
    let q = c.requires.sound in
    let s0 = state_of t.state q.0 c.args.left.now q.1 q.2 in
    let is = c.in-Call.ensures (expression_of t.code.now) in
    callable g.H.Host.meaning P t.free c.in-Call.function s0 (first_runs _ (rest_of g.H.Host.meaning P t) (alone g.H.Host.meaning P t _ (begins g.H.Host.meaning P t _ _ s0 is q.3)))

pub call_indirect-requires-clause-leaves : goal.call_indirect-requires-clause-leaves
call_indirect-requires-clause-leaves g c =
    let P = program_of c.args.functions.now in
    let t = c.args.thread.now in
    let q = c.requires.sound in
    let s0 = state_of t.state q.0 c.args.left.now q.1 q.2 in
    let is = c.in-CallIndirect.ensures (expression_of t.code.now) in
    let lt = operand g.H.Host.meaning P t _ _ s0 _ is refl q.3 in
    leaves g.H.Host.meaning P t.free (element P c.in-CallIndirect.kind (low (top t.state.values.stack))) (on_stack s0 (popped t.state.values.stack))
    (first_runs _ (rest_of g.H.Host.meaning P t) (alone g.H.Host.meaning P t _
    (subst (λ o. NotStuck (whole g.H.Host.meaning P t o)) (CallIndirect_is P (call g.H.Host.meaning P t.free) s0 lt c.in-CallIndirect.kind (expression_of t.code.now)) (begins g.H.Host.meaning P t _ _ s0 is q.3))))

pub branch-thread-requires-in-BrIf-clause-reaches : goal.branch-thread-requires-in-BrIf-clause-reaches
branch-thread-requires-in-BrIf-clause-reaches g c =
    let P = program_of c.args.functions.now in
    let t = c.args.thread.now in
    let q = c.requires.sound in
    let s0 = state_of t.state q.0 c.args.left.now q.1 q.2 in
    let is = c.in-BrIf.ensures (expression_of t.code.now) in
    let lt = operand g.H.Host.meaning P t _ _ s0 _ is refl q.3 in
    let n : low (top t.state.values.stack) ≡ c.low.result = sym (c.low.ensures ∙ ap low c.pop.ensures.value) in
    let taken : (low (top t.state.values.stack) == 0) ≡ false = ap (λ k. k == 0) n ∙ grind (arith, eqb-true, c.if-low-eq0.false) in
    subst (λ v. Reaches t.frames c.in-BrIf.depth (length v.stack)) (sym c.pop.ensures.rest)
    (reaches g.H.Host.meaning P t.free t.state.values.below t.frames c.in-BrIf.depth (on_stack s0 (popped t.state.values.stack))
    (subst (λ b. NotStuck (whole g.H.Host.meaning P t (and_then (jump_unless b c.in-BrIf.depth (on_stack s0 (popped t.state.values.stack))) (rest_of g.H.Host.meaning P t)))) taken
    (subst (λ o. NotStuck (whole g.H.Host.meaning P t o)) (BrIf_is P (call g.H.Host.meaning P t.free) s0 lt c.in-BrIf.depth (expression_of t.code.now)) (begins g.H.Host.meaning P t _ _ s0 is q.3))))

pub branch-thread-requires-in-BrTable-clause-reaches : goal.branch-thread-requires-in-BrTable-clause-reaches
branch-thread-requires-in-BrTable-clause-reaches g c =
    let P = program_of c.args.functions.now in
    let t = c.args.thread.now in
    let q = c.requires.sound in
    let s0 = state_of t.state q.0 c.args.left.now q.1 q.2 in
    let is = c.in-BrTable.ensures (expression_of t.code.now) in
    let lt = operand g.H.Host.meaning P t _ _ s0 _ is refl q.3 in
    let n : low (top t.state.values.stack) ≡ c.low-at.result = sym (c.low-at.ensures ∙ ap low c.pop-in-BrTable.ensures.value) in
    let depth = ap (λ at. slice_index_or c.in-BrTable.labels.now at c.in-BrTable.last) n ∙ sym c.label-depth.ensures in
    subst (λ k. Reaches t.frames k (length c.pop-in-BrTable.new.self.stack)) depth
    (subst (λ v. Reaches t.frames (slice_index_or c.in-BrTable.labels.now (low (top t.state.values.stack)) c.in-BrTable.last) (length v.stack)) (sym c.pop-in-BrTable.ensures.rest)
    (reaches g.H.Host.meaning P t.free t.state.values.below t.frames (slice_index_or c.in-BrTable.labels.now (low (top t.state.values.stack)) c.in-BrTable.last) (on_stack s0 (popped t.state.values.stack))
    (subst (λ o. NotStuck (whole g.H.Host.meaning P t o)) (BrTable_is P (call g.H.Host.meaning P t.free) s0 lt c.in-BrTable.labels.now c.in-BrTable.last (expression_of t.code.now)) (begins g.H.Host.meaning P t _ _ s0 is q.3))))
