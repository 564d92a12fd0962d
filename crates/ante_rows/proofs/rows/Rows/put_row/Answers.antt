use Rattle.std.proofs.Common.{◌≤◌, Some, arith}
use Rattle.ante_rows.proofs.LastRow.{rows_kept}
use Rattle.ante_rows.proofs.rows.Rows.put_row.Goals as goal

pub invariant_of-self-inside : goal.invariant_of-self-inside
invariant_of-self-inside c =
    let fits : c.args.primary ≤ 18446744073709551615 = omega (arith, c.ranges.primary.fits) in
    rows_kept c.parts.inside.first c.parts.inside.second c.set_entry.new.map c.set_entry.result (record { table = c.args.key; primary = c.args.primary }) (Some c.args.row) fits c.set_entry.ensures.ok c.set_entry.ensures.err
    (rw (← c.parts.view_is) at c.self-inside.invariant)
