use Rattle.std.proofs.lemmas.Result.{err_from_is_err_and}
use Rattle.ante_wdecode.specs.Modules.{groups}
use Rattle.ante_wdecode.proofs.Bodies.{group_read, no_count, no_kind}
use Rattle.ante_wdecode.proofs.code.read_groups.Goals as goal

pub returns-in_err-n : goal.returns-in_err-n
returns-in_err-n c =
    let p = err_from_is_err_and c.from_residual.result c.from_residual.ensures.1 in
    rw (p.1, p.2) (no_count c.in_err-n.field-0.0 c.loop.locals c.loop.left c.args.count c.loop.counter c.loop.rest.now ((groups c.args.most c.args.count).read c.args.bytes.now) c.loop-test.true c.in_err-n.ensures c.loop.invariant)

pub returns-in_err-kind : goal.returns-in_err-kind
returns-in_err-kind c =
    let p = err_from_is_err_and c.from_residual-in_err-kind.result c.from_residual-in_err-kind.ensures.1 in
    rw (p.1, p.2) (no_kind c.in_err-kind.field-0.0 c.loop.locals c.loop.left c.args.count c.loop.counter c.loop.rest.now c.in_ok-n.n c.in_ok-n.after.now ((groups c.args.most c.args.count).read c.args.bytes.now) c.loop-test.true c.in_ok-n.ensures c.in_err-kind.ensures c.loop.invariant)

pub loop-preserved : goal.loop-preserved
loop-preserved c =
    rw c.in_ok-push_locals.ensures (group_read c.loop.locals c.loop.left c.args.count c.loop.counter c.loop.rest.now c.in_ok-n.n c.in_ok-n.after.now c.in_ok-kind.kind c.in_ok-kind.after.now _ c.loop-test.true c.in_ok-n.ensures c.in_ok-kind.ensures c.loop.invariant)
