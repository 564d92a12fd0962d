use Rattle.std.proofs.lemmas.Result.{err_from_is_err_and}
use Rattle.ante_pack.specs.Forms.{items_at}
use Rattle.ante_pack.proofs.Items.{goes_on, ends, is_done}
use Rattle.ante_pack.proofs.packed.read_items.Goals as goal

pub returns-in_err-item : goal.returns-in_err-item
returns-in_err-item g c =
    let p = err_from_is_err_and c.from_residual.result c.from_residual.ensures.1 in
    rw (p.1, p.2) (ends g.T.Packed.form.read c.in_err-item.field-0.0 c.loop.items c.args.count c.loop.counter c.loop.reader c.read_fields.new.reader (items_at g.T.Packed.form.read c.args.count c.args.reader.now) c.loop-test.true c.in_err-item.ensures c.loop.invariant)

pub loop-preserved : goal.loop-preserved
loop-preserved g c =
    rw c.in_ok-push.ensures.ok (goes_on g.T.Packed.form.read c.loop.items c.args.count c.loop.counter c.loop.reader c.in_ok-item.item c.read_fields.new.reader _ c.loop-test.true c.in_ok-item.ensures c.loop.invariant)

pub returns : goal.returns
returns g c = is_done g.T.Packed.form.read c.loop.items c.args.count c.loop.counter c.loop.reader _ c.loop-test.false c.loop.invariant
