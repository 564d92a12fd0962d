use Rattle.std.proofs.Common.{◌≤◌, None, arith}
use Rattle.ante_rows.proofs.LastRow.{rows_kept}
use Rattle.ante_rows.proofs.rows.Rows.remove_row.Goals as goal

pub invariant_of-self-inside : goal.invariant_of-self-inside
invariant_of-self-inside c =
    let fits : c.args.primary ≤ 18446744073709551615 = omega (arith, c.ranges.primary.fits) in
    rows_kept c.parts.inside.first c.parts.inside.second c.remove.new.self c.remove.result (record { table = c.args.key.now; primary = c.args.primary }) None fits c.remove.ensures.ok c.remove.ensures.err
    (rw (← c.parts.view_is) at c.self-inside.invariant)
