use Rattle.std.proofs.Common.{[], ◌∷◌, refl, sym, subst}
use Rattle.ante_wtree.specs.declared.instructions.ValueKind.TheVariants.{I32}
use Rattle.ante_wtree.specs.Expressions.{expression_of}
use Rattle.ante_wtree.specs.Types.{kinds_of}
use Rattle.ante_wvalid.specs.Typing.{Typed, Turns, inside}
use Rattle.ante_wvalid.specs.OperandStacks.{Carries, context_in, step_of}
use Rattle.ante_wvalid.proofs.Carrying.{later, turns_as, where_yes}
use Rattle.ante_wvalid.proofs.Passing.{stops}
use Rattle.ante_wvalid.proofs.bodies.+bodies.Goals as goal

pub choice-returns-clause-carries : goal.choice-returns-clause-carries
choice-returns-clause-carries t c = where_yes _ (Turns (I32 ∷ []) (kinds_of c.args.kind)) c.in_ok-typed.typed c.args.operands.now c.turn.new.self (
  c.in_ok-inner.ensures.typed.0 c.if-not-branch.false,
  subst (λ ls. Typed (inside c.args.kind (context_in c.args.scope.now ls)) (expression_of c.args.two.now) [] (kinds_of c.args.kind)) c.in_ok-inner.ensures.labels (c.in_ok-inner-2.ensures.typed.0 c.if-not-branch-2.false),
)
    (turns_as (I32 ∷ []) c.kinds.result.now (I32 ∷ []) (kinds_of c.args.kind) c.in_ok-typed.typed c.args.operands.now c.turn.new.self refl c.kinds.ensures c.in_ok-typed.ensures)

pub sequence-returns-then-not-branch-clause-typed : goal.sequence-returns-then-not-branch-clause-typed
sequence-returns-then-not-branch-clause-typed t c = (
  λ e. cc,
  λ h. absurd (stops (context_in c.args.scope.now c.args.labels.now) c.args.body.now c.instrs.rest.now c.in-Some.tail.now c.in-Some.instr.now c.shape_of.result c.in_ok-step.field-0 c.instrs.operands c.step.new.operands
      c.in-Some.ensures.cases.0 c.shape_of.ensures
      (subst (λ ls. Carries (step_of (context_in c.args.scope.now ls) c.shape_of.result) c.in_ok-step.field-0 c.instrs.operands c.step.new.operands) c.instrs.invariant.1 c.in_ok-step.ensures.carries)
      c.if-not-branch.true c.instrs.invariant.0 (kinds_of c.args.wanted) h),
)

pub step-returns-in-Plain-clause-carries : goal.step-returns-in-Plain-clause-carries
step-returns-in-Plain-clause-carries t c = later c.plain.result _ _ (λ y h. subst (λ s. Carries (step_of (context_in c.args.scope.now c.args.labels.now) s) y c.args.operands.now c.plain.new.operands) (sym c.in-Plain.is) (h c.args.labels.now)) c.plain.ensures

pub step-returns-in-If-clause-carries : goal.step-returns-in-If-clause-carries
step-returns-in-If-clause-carries t c = later c.choice.result _ _ (λ y h. subst (λ s. Carries (step_of (context_in c.args.scope.now c.args.labels.now) s) y c.args.operands.now c.choice.new.operands) (sym c.in-If.is) h) c.choice.ensures.carries

pub step-returns-in-CallIndirect-clause-carries : goal.step-returns-in-CallIndirect-clause-carries
step-returns-in-CallIndirect-clause-carries t c = later c.call_by_table.result _ _ (λ y h. subst (λ s. Carries (step_of (context_in c.args.scope.now c.args.labels.now) s) y c.args.operands.now c.call_by_table.new.operands) (sym c.in-CallIndirect.is) h) c.call_by_table.ensures
