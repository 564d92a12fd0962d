use Rattle.ante_node.specs.ReadOnly.{builtin_world, unknown_account}
use Rattle.ante_node.proofs.Walks.{where-goes, where-stops, where-ends, unknown_yes, unknown_no}
use Rattle.ante_node.proofs.read_only.first_unknown.Goals as goal

pub returns-then-not-is_there : goal.returns-then-not-is_there
returns-then-not-is_there c =
    let a = c.action-item.result in
    where-stops (unknown_account builtin_world) c.args.actions.now c.loop-action.action-index a a.account _ c.loop-action-test.true c.action-item.is
    (unknown_yes builtin_world a c.is_there.result c.is_there.ensures c.if-not-is_there.true) c.loop-action.invariant

pub loop-action-preserved : goal.loop-action-preserved
loop-action-preserved c =
    let a = c.action-item.result in
    where-goes (unknown_account builtin_world) c.args.actions.now c.loop-action.action-index a _ c.loop-action-test.true c.action-item.is
    (unknown_no builtin_world a c.is_there.result c.is_there.ensures c.if-not-is_there.false) c.loop-action.invariant

pub returns : goal.returns
returns c = where-ends (unknown_account builtin_world) c.args.actions.now c.loop-action.action-index _ c.loop-action-test.false c.loop-action.invariant
