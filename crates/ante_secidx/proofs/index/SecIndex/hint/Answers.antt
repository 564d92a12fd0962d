use Rattle.std.proofs.Common.{◌∙◌}
use Rattle.ante_secidx.proofs.Hinted.{tells}
use Rattle.ante_secidx.proofs.index.SecIndex.hint.Goals as goal

pub returns : goal.returns
returns g c = rw (← c.self.view_is, ← c.self-inside.view_is, ← c.self-inside-inside.view_is)
    (tells g.K.SecKey.fits c.orders_hold.ensures.exact_rows _ g.K.Ord.cmp c.orders_hold.ensures.places c.orders_hold.ensures.rows c.orders_hold.ensures.exact_places c.args.table c.args.primary _ c.copied.result
    (rw (← c.self-inside-inside.view_is) at c.self-inside.invariant.top.hinted) (c.copied.ensures ∙ c.get.ensures))
