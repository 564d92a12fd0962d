use Rattle.std.proofs.Common.{◌∙◌, sym}
use Rattle.ante_node.specs.ReadOnly.{write_refused}
use Rattle.ante_node.proofs.Walks.{where-goes, where-stops, where-ends, runs-go, runs-stop, runs-end, refused_yes, refused_no}
use Rattle.ante_node.proofs.read_only.run_actions.Goals as goal

pub returns-then-is_native-clause-runs : goal.returns-then-is_native-clause-runs
returns-then-is_native-clause-runs c =
    let a = c.index-actions-i.result in
    rw (c.in_ok-push.ensures.ok, c.in_ok-run.ensures)
    (runs-stop c.loop-i.runs c.args.actions.now c.loop-i.i a _ c.loop-i-test.true c.index-actions-i.is (sym c.is_native.ensures ∙ c.if-is_native.true) c.loop-i.invariant.runs)

pub returns-then-is_native-clause-failure : goal.returns-then-is_native-clause-failure
returns-then-is_native-clause-failure c =
    let a = c.index-actions-i.result in
    rw c.in_ok-refused.ensures
    (where-stops write_refused c.args.actions.now c.loop-i.i a _ _ c.loop-i-test.true c.index-actions-i.is
    (refused_yes a c.is_native.result c.is_native.ensures c.if-is_native.true) c.loop-i.invariant.failure)

pub loop-i-preserved : goal.loop-i-preserved
loop-i-preserved c =
    let a = c.index-actions-i.result in
    record {
      runs = rw (c.in_ok-push.ensures.ok, c.in_ok-run.ensures)
          (runs-go c.loop-i.runs c.args.actions.now c.loop-i.i a _ c.loop-i-test.true c.index-actions-i.is (sym c.is_native.ensures ∙ c.if-is_native.false) c.loop-i.invariant.runs);
      failure = where-goes write_refused c.args.actions.now c.loop-i.i a _ c.loop-i-test.true c.index-actions-i.is
          (refused_no a c.is_native.result c.is_native.ensures c.if-is_native.false) c.loop-i.invariant.failure;
    }

pub returns-clause-runs : goal.returns-clause-runs
returns-clause-runs c = runs-end c.loop-i.runs c.args.actions.now c.loop-i.i _ c.loop-i-test.false c.loop-i.invariant.runs

pub returns-clause-failure : goal.returns-clause-failure
returns-clause-failure c = where-ends write_refused c.args.actions.now c.loop-i.i _ c.loop-i-test.false c.loop-i.invariant.failure
