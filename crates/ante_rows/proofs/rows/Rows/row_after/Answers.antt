use Rattle.std.proofs.Common.{T, refl, sym, ap, subst, ◌∙◌}
use Rattle.std.specs.Ordering.{is_gt}
use Rattle.ante_rows.specs.Rows.{in_table}
use Rattle.ante_state.specs.Orders.{table_order}
use Rattle.ante_rows.proofs.Neighbours.{first_in, rows_ordered}
use Rattle.ante_rows.proofs.rows.Rows.row_after.Goals as goal

pub returns-clause-nearest : goal.returns-clause-nearest
returns-clause-nearest c = rw (← c.self.view_is, ← c.self-inside.view_is, ← c.self-inside-inside.view_is)
    (c.in_table.ensures ∙ ap (in_table table_order c.args.key.now) c.after.ensures.nearest ∙ first_in c.total_order.ensures is_gt refl refl c.args.key.now c.args.primary _ (subst T (sym c.after.ensures.ordered) tt))

pub returns-clause-ordered : goal.returns-clause-ordered
returns-clause-ordered c = rw (← c.self.view_is, ← c.self-inside.view_is, ← c.self-inside-inside.view_is) (rows_ordered c.total_order.ensures c.args.key.now _ c.after.ensures.ordered)
