use Rattle.std.proofs.Common.{◌≤◌, arith}
use Rattle.ante_secidx.proofs.Hinted.{put_kept}
use Rattle.ante_secidx.proofs.index.SecIndex.put_row.Goals as goal

pub invariant_of-self-inside-2 : goal.invariant_of-self-inside-2
invariant_of-self-inside-2 g c =
    let fits : c.args.primary ≤ 18446744073709551615 = omega (arith, c.ranges.primary.fits) in
    put_kept g.K.SecKey.fits c.orders_hold.ensures.rows g.K.Ord.cmp c.orders_hold.ensures.places _ c.set_hint.new.parts c.set_row.new.parts c.set_row.result (record { table = c.args.table; key = c.args.key; primary = c.args.primary }) c.args.payer
    c.in_ok-set_hint.ensures.ok c.set_row.ensures.ok c.set_row.ensures.err (c.is_within.ensures, fits) (rw (← c.self.view_is, ← c.self-inside.view_is) at c.requires.free) c.self-inside.invariant
