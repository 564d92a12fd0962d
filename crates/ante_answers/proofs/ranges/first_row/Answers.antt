use Rattle.std.proofs.Common.{T, sym, ap, subst, ◌∙◌, option_map}
use Rattle.ante_undo.specs.Entries.{first_entry}
use Rattle.ante_state.specs.Orders.{table_order}
use Rattle.ante_rows.specs.Rows.{rows_of}
use Rattle.ante_answers.specs.Answers.{rows_between}
use Rattle.ante_answers.proofs.Between.{first_up, first_down}
use Rattle.ante_answers.proofs.ranges.first_row.Goals as goal

pub returns-then-range : goal.returns-then-range
returns-then-range c =
    let rows = rows_of table_order c.args.range.table c.args.rows.now.top.rows in
    c.from_lower.ensures
    ∙ first_down c.args.range.lower c.args.range.upper rows (subst T (sym c.last_up_to.ensures.ordered) tt) (option_map (λ e. (e.0, e.1.now)) c.last_up_to.result) c.last_up_to.ensures.nearest
    ∙ ap (λ b. first_entry (rows_between c.args.range.lower c.args.range.upper b c.args.range.table c.args.rows.now.top.rows)) (sym c.if-range.true)

pub returns-else-range : goal.returns-else-range
returns-else-range c =
    let rows = rows_of table_order c.args.range.table c.args.rows.now.top.rows in
    c.up_to_upper.ensures
    ∙ first_up c.args.range.lower c.args.range.upper rows (subst T (sym c.first_from.ensures.ordered) tt) (option_map (λ e. (e.0, e.1.now)) c.first_from.result) c.first_from.ensures.nearest
    ∙ ap (λ b. first_entry (rows_between c.args.range.lower c.args.range.upper b c.args.range.table c.args.rows.now.top.rows)) (sym c.if-range.false)
