use Rattle.std.proofs.Common.{refl, ap, ◌∙◌}
use Rattle.ante_types.specs.declared.failure.Failure.TheVariants as failure
use Rattle.ante_types.specs.World.{World}
use Rattle.ante_undo.specs.Stack.{Stack}
use Rattle.ante_execution.specs.Codes.{codes_with}
use Rattle.ante_execution.specs.Runs.{code_at, begun}
use Rattle.ante_execution.specs.Native.{native_of_run}
use Rattle.ante_apply.specs.Runs.{seen}
use Rattle.ante_apply.proofs.Ends.{is_failed, same_ran, unpaid, paid_so, by_steps}
use Rattle.ante_apply.proofs.run.run.Goals as goal

pub returns-then-not-pay-clause-runs : goal.returns-then-not-pay-clause-runs
returns-then-not-pay-clause-runs g c = λ accepts a.
    let s = seen (g.T.Tables.stack c.args.tables.now).top c.args.run c.args.packed.now in
    let same = c.code_at-code.ensures ∙ ap (λ (x : Stack World). code_at c.args.run.receiver x.top) c.store.ensures in
    let go = begun (codes_with accepts) (native_of_run c.args.run) s in
    is_failed _ _ failure.StepLimit s s c.pay.new.left refl
    (by_steps accepts s c.args.left.now c.code_at-code.result.now same c.in_ok-steps.steps (c.in_ok-steps.ensures.steps accepts a)
    ∙ unpaid c.in_ok-steps.steps c.args.left.now c.pay.new.left c.pay.result s go c.pay.ensures.fits c.pay.ensures.left c.if-not-pay.true)

pub returns-clause-runs : goal.returns-clause-runs
returns-clause-runs g c = λ accepts a.
    let s = seen (g.T.Tables.stack c.args.tables.now).top c.args.run c.args.packed.now in
    let same = c.code_at-code.ensures ∙ ap (λ (x : Stack World). code_at c.args.run.receiver x.top) c.store.ensures in
    let go = begun (codes_with accepts) (native_of_run c.args.run) s in
    same_ran _ _ _ _ c.begin.result _ c.begin.new.left
    (by_steps accepts s c.args.left.now c.code_at-code.result.now same c.in_ok-steps.steps (c.in_ok-steps.ensures.steps accepts a)
    ∙ paid_so c.in_ok-steps.steps c.args.left.now c.pay.new.left c.pay.result s go c.pay.ensures.fits c.pay.ensures.left c.if-not-pay.false)
    (c.begin.ensures.runs accepts a)
