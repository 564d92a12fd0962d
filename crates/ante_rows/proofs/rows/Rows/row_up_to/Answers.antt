use Rattle.std.proofs.Common.{T, refl, sym, ap, subst, ◌∙◌}
use Rattle.std.specs.Ordering.{is_le}
use Rattle.ante_rows.specs.Rows.{in_table}
use Rattle.ante_state.specs.Orders.{table_order}
use Rattle.ante_rows.proofs.Neighbours.{last_in}
use Rattle.ante_rows.proofs.rows.Rows.row_up_to.Goals as goal

pub returns-clause-nearest : goal.returns-clause-nearest
returns-clause-nearest c = rw (← c.self.view_is, ← c.self-inside.view_is, ← c.self-inside-inside.view_is)
    (c.in_table.ensures ∙ ap (in_table table_order c.args.key.now) c.at_or_before.ensures.nearest
    ∙ last_in c.total_order.ensures is_le refl refl c.args.key.now c.args.primary _ (subst T (sym c.at_or_before.ensures.ordered) tt))

pub returns-clause-fit : goal.returns-clause-fit
returns-clause-fit c = rw (← c.self.view_is, ← c.self-inside.view_is, ← c.self-inside-inside.view_is) (rw (← c.self-inside-inside.view_is) at c.self-inside.invariant.top)
