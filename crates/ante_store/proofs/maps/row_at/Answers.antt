use Rattle.std.proofs.Common.{◌∙◌, sym, ap}
use Rattle.std.specs.FinMap.Entries.{find}
use Rattle.ante_state.specs.Orders.{table_order, row_order}
use Rattle.ante_rows.proofs.Neighbours.{found_in}
use Rattle.ante_store.proofs.KeyOrders.{tables_total}
use Rattle.ante_store.proofs.maps.row_at.Goals as goal

pub returns : goal.returns
returns c =
    c.row.ensures
    ∙ sym (found_in tables_total c.args.table.now c.args.primary c.rows_of.result.now.top.rows)
    ∙ ap (λ m. find row_order (record { table = c.args.table.now; primary = c.args.primary }) m.rows) c.rows_of.ensures
