use Rattle.ante_secidx.proofs.Hinted.{single}
use Rattle.ante_secidx.proofs.index.SecIndex.rows_are_single.Goals as goal

pub returns : goal.returns
returns g c t p = rw (← c.self.view_is, ← c.self-inside.view_is, ← c.self-inside-inside.view_is)
    (single g.K.SecKey.fits c.orders_hold.ensures.exact_rows _ g.K.Ord.cmp c.orders_hold.ensures.places t p _ (rw (← c.self-inside-inside.view_is) at c.self-inside.invariant.top.hinted))
