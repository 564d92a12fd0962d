use Rattle.std.proofs.Common.{T, sym, ap, subst, ◌∙◌}
use Rattle.std.specs.Option.{option_copied}
use Rattle.ante_state.specs.Orders.{table_order}
use Rattle.ante_rows.specs.Rows.{rows_of}
use Rattle.ante_answers.proofs.Between.{up_to_row, up_to_before}
use Rattle.ante_answers.proofs.ranges.last_at.Goals as goal

pub returns-in-Some-clause-nearest : goal.returns-in-Some-clause-nearest
returns-in-Some-clause-nearest c =
    up_to_row c.args.bound c.in-Some.row.now (rows_of table_order c.args.table.now c.args.rows.now.top.rows)
    (subst T (sym c.row_before-before.ensures.ordered) tt) (sym (ap option_copied (sym c.in-Some.is) ∙ c.row.ensures))

pub returns-in-None-clause-nearest : goal.returns-in-None-clause-nearest
returns-in-None-clause-nearest c =
    c.row_before-before.ensures.nearest
    ∙ up_to_before c.args.bound (rows_of table_order c.args.table.now c.args.rows.now.top.rows) (sym (ap option_copied (sym c.in-None.is) ∙ c.row.ensures))
