use Rattle.std.proofs.Common.{refl, sym, ap, subst, ◌∙◌, Ok}
use Rattle.ante_types.specs.declared.failure.Failure.TheVariants as failure
use Rattle.ante_execution.specs.Native.{native_of_run, native_run}
use Rattle.ante_execution.specs.Runs.{paid}
use Rattle.ante_apply.specs.Runs.{seen, NativelyDoes}
use Rattle.ante_apply.proofs.Ends.{is_fine, is_failed, same_ran, unpaid, paid_so, begun_none, begun_some, after, native_failed, native_alone, native_then_code}
use Rattle.ante_apply.proofs.run.begin.Goals as goal

pub returns-in_default-clause-runs : goal.returns-in_default-clause-runs
returns-in_default-clause-runs g c = λ accepts a.
    let s = seen (g.T.Tables.stack c.args.tables.now).top c.args.run c.args.packed.now in
    same_ran _ _ _ _ c.receiver_runs.result _ c.receiver_runs.new.left
    (begun_none accepts s c.args.left.now (native_of_run c.args.run) (sym c.native_of_run.ensures ∙ c.in_default.is)) (c.receiver_runs.ensures.runs accepts a)

pub returns-then-not-pay-clause-runs : goal.returns-then-not-pay-clause-runs
returns-then-not-pay-clause-runs g c = λ accepts a.
    let s = seen (g.T.Tables.stack c.args.tables.now).top c.args.run c.args.packed.now in
    let n = c.in-Some.action in
    is_failed _ _ failure.StepLimit s s c.pay.new.left refl
    (begun_some accepts s c.args.left.now n (native_of_run c.args.run) (sym c.native_of_run.ensures ∙ c.in-Some.is)
    ∙ ap (λ x. paid x c.args.left.now s (after accepts s c.args.left.now n)) (sym c.in_ok-steps.ensures)
    ∙ unpaid c.in_ok-steps.steps c.args.left.now c.pay.new.left c.pay.result s (after accepts s c.args.left.now n) c.pay.ensures.fits c.pay.ensures.left c.if-not-pay.true)

pub returns-in-Ok-Some-clause-runs : goal.returns-in-Ok-Some-clause-runs
returns-in-Ok-Some-clause-runs g c = λ accepts a.
    let s = seen (g.T.Tables.stack c.args.tables.now).top c.args.run c.args.packed.now in
    let left = c.args.left.now in
    let n = c.in-Some.action in
    let w = (g.T.Tables.stack c.do_native.new.tables).top in
    let does = subst (λ r. NativelyDoes (native_run accepts c.args.run s.world n) r w) (c.in-Ok-Some.is ∙ ap Ok c.in-Ok-Some.field-0-is) (c.do_native.ensures.does accepts a) in
    is_failed _ _ c.in-Ok-Some.failure s (seen w c.args.run c.args.packed.now) c.pay.new.left refl
    (begun_some accepts s left n (native_of_run c.args.run) (sym c.native_of_run.ensures ∙ c.in-Some.is)
    ∙ ap (λ x. paid x left s (after accepts s left n)) (sym c.in_ok-steps.ensures)
    ∙ paid_so c.in_ok-steps.steps left c.pay.new.left c.pay.result s (after accepts s left n) c.pay.ensures.fits c.pay.ensures.left c.if-not-pay.false
    ∙ native_failed accepts s left n c.in-Ok-Some.failure c.pay.new.left does)

pub returns-then-is_setcode-clause-runs : goal.returns-then-is_setcode-clause-runs
returns-then-is_setcode-clause-runs g c = λ accepts a.
    let s = seen (g.T.Tables.stack c.args.tables.now).top c.args.run c.args.packed.now in
    let left = c.args.left.now in
    let n = c.in-Some.action in
    let w = (g.T.Tables.stack c.do_native.new.tables).top in
    let does = subst (λ r. NativelyDoes (native_run accepts c.args.run s.world n) r w) (c.in-Ok-None.is ∙ ap Ok c.in-Ok-None.field-0-is) (c.do_native.ensures.does accepts a) in
    is_fine _ _ (seen w c.args.run c.args.packed.now) c.pay.new.left
    (begun_some accepts s left n (native_of_run c.args.run) (sym c.native_of_run.ensures ∙ c.in-Some.is)
    ∙ ap (λ x. paid x left s (after accepts s left n)) (sym c.in_ok-steps.ensures)
    ∙ paid_so c.in_ok-steps.steps left c.pay.new.left c.pay.result s (after accepts s left n) c.pay.ensures.fits c.pay.ensures.left c.if-not-pay.false
    ∙ native_alone accepts s left n w c.pay.new.left does (sym c.is_setcode.ensures ∙ c.if-is_setcode.true))

pub returns-clause-runs : goal.returns-clause-runs
returns-clause-runs g c = λ accepts a.
    let s = seen (g.T.Tables.stack c.args.tables.now).top c.args.run c.args.packed.now in
    let left = c.args.left.now in
    let n = c.in-Some.action in
    let w = (g.T.Tables.stack c.do_native.new.tables).top in
    let does = subst (λ r. NativelyDoes (native_run accepts c.args.run s.world n) r w) (c.in-Ok-None.is ∙ ap Ok c.in-Ok-None.field-0-is) (c.do_native.ensures.does accepts a) in
    same_ran _ _ _ _ c.receiver_runs-2.result _ c.receiver_runs-2.new.left
    (begun_some accepts s left n (native_of_run c.args.run) (sym c.native_of_run.ensures ∙ c.in-Some.is)
    ∙ ap (λ x. paid x left s (after accepts s left n)) (sym c.in_ok-steps.ensures)
    ∙ paid_so c.in_ok-steps.steps left c.pay.new.left c.pay.result s (after accepts s left n) c.pay.ensures.fits c.pay.ensures.left c.if-not-pay.false
    ∙ native_then_code accepts s left n w c.pay.new.left does (sym c.is_setcode.ensures ∙ c.if-is_setcode.false))
    (c.receiver_runs-2.ensures.runs accepts a)
