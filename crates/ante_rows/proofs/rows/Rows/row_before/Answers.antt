use Rattle.std.proofs.Common.{T, refl, sym, ap, subst, ◌∙◌}
use Rattle.std.specs.Ordering.{is_lt}
use Rattle.ante_rows.specs.Rows.{in_table}
use Rattle.ante_state.specs.Orders.{table_order}
use Rattle.ante_rows.proofs.Neighbours.{last_in, rows_ordered}
use Rattle.ante_rows.proofs.rows.Rows.row_before.Goals as goal

pub returns-clause-nearest : goal.returns-clause-nearest
returns-clause-nearest c = rw (← c.self.view_is, ← c.self-inside.view_is, ← c.self-inside-inside.view_is)
    (c.in_table.ensures ∙ ap (in_table table_order c.args.key.now) c.before-2.ensures.nearest ∙ last_in c.total_order.ensures is_lt refl refl c.args.key.now c.args.primary _ (subst T (sym c.before-2.ensures.ordered) tt))

pub returns-clause-ordered : goal.returns-clause-ordered
returns-clause-ordered c = rw (← c.self.view_is, ← c.self-inside.view_is, ← c.self-inside-inside.view_is) (rows_ordered c.total_order.ensures c.args.key.now _ c.before-2.ensures.ordered)
