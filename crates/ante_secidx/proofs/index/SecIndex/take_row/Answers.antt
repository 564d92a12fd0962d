use Rattle.ante_secidx.proofs.Hinted.{take_kept, free_after}
use Rattle.ante_secidx.proofs.index.SecIndex.take_row.Goals as goal

pub invariant_of-self-inside : goal.invariant_of-self-inside
invariant_of-self-inside g c =
    take_kept g.K.SecKey.fits c.orders_hold.ensures.rows g.K.Ord.cmp c.orders_hold.ensures.places _ c.set_row.new.parts c.set_row.result c.args.place c.set_row.ensures.ok c.set_row.ensures.err c.self-inside.invariant

pub returns-clause-free : goal.returns-clause-free
returns-clause-free g c =
    free_after g.K.SecKey.fits c.orders_hold.ensures.exact_rows _ g.K.Ord.cmp c.orders_hold.ensures.places c.set_row.result _ c.set_row.new.parts c.args.table c.args.primary c.args.place c.set_row.ensures.ok
    (rw (← c.self.view_is, ← c.self-inside.view_is) at c.requires.there) c.self-inside.invariant.top.hinted
