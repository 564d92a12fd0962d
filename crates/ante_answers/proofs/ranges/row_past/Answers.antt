use Rattle.std.proofs.Common.{T, true, false, sym, subst, option_map}
use Rattle.ante_state.specs.Orders.{table_order}
use Rattle.ante_rows.specs.Rows.{rows_of}
use Rattle.ante_answers.specs.Answers.{rows_between}
use Rattle.ante_answers.specs.Walks.{Follows}
use Rattle.ante_answers.proofs.Between.{next_up, next_down}
use Rattle.ante_answers.proofs.ranges.row_past.Goals as goal

pub returns-then-range : goal.returns-then-range
returns-then-range c =
    let rows = rows_of table_order c.args.range.table c.args.rows.now.top.rows in
    let follows = next_down c.args.range.lower c.args.range.upper rows (subst T (sym c.row_before.ensures.ordered) tt) c.args.primary (option_map (λ e. (e.0, e.1.now)) c.row_before.result) c.row_before.ensures.nearest in
    subst (λ b. Follows (rows_between c.args.range.lower c.args.range.upper b c.args.range.table c.args.rows.now.top.rows) c.args.primary (option_map (λ e. (e.0, e.1.now)) c.from_lower.result)) (sym c.if-range.true)
    (subst (Follows (rows_between c.args.range.lower c.args.range.upper true c.args.range.table c.args.rows.now.top.rows) c.args.primary) (sym c.from_lower.ensures) follows)

pub returns-else-range : goal.returns-else-range
returns-else-range c =
    let rows = rows_of table_order c.args.range.table c.args.rows.now.top.rows in
    let follows = next_up c.args.range.lower c.args.range.upper rows (subst T (sym c.row_after.ensures.ordered) tt) c.args.primary (option_map (λ e. (e.0, e.1.now)) c.row_after.result) c.row_after.ensures.nearest in
    subst (λ b. Follows (rows_between c.args.range.lower c.args.range.upper b c.args.range.table c.args.rows.now.top.rows) c.args.primary (option_map (λ e. (e.0, e.1.now)) c.up_to_upper.result)) (sym c.if-range.false)
    (subst (Follows (rows_between c.args.range.lower c.args.range.upper false c.args.range.table c.args.rows.now.top.rows) c.args.primary) (sym c.up_to_upper.ensures) follows)
