use Rattle.std.proofs.Common.{◌∙◌}
use Rattle.std.specs.Ordering.{nat_cmp}
use Rattle.ante_rows.specs.Rows.{rows_of, greatest_key}
use Rattle.ante_state.specs.Orders.{table_order}
use Rattle.ante_rows.proofs.LastRow.{last_up_to, none_after}
use Rattle.ante_rows.proofs.rows.Rows.row_last.Goals as goal

pub returns : goal.returns
returns c =
    c.row_up_to.ensures.nearest
    ∙ last_up_to nat_cmp greatest_key (rows_of table_order c.args.key.now c.args.self.now.top.rows) (none_after c.args.key.now c.args.self.now.top.rows c.row_up_to.ensures.fit)
