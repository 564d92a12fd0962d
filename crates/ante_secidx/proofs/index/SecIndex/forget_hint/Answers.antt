use Rattle.std.proofs.Common.{None}
use Rattle.ante_secidx.proofs.Hinted.{hint_kept}
use Rattle.ante_secidx.proofs.index.SecIndex.forget_hint.Goals as goal

pub invariant_of-self-inside : goal.invariant_of-self-inside
invariant_of-self-inside g c =
    hint_kept g.K.SecKey.fits c.orders_hold.ensures.rows g.K.Ord.cmp _ c.set_hint-forgotten.new.parts c.set_hint-forgotten.result (record { table = c.args.table; primary = c.args.primary }) None
    c.set_hint-forgotten.ensures.ok c.set_hint-forgotten.ensures.err (rw (← c.self.view_is, ← c.self-inside.view_is) at c.requires.free) c.self-inside.invariant
