use Rattle.std.proofs.Common.{◌∙◌, ap, sym}
use Rattle.ante_undo.specs.Entries.{first_where}
use Rattle.ante_state.specs.Orders.{table_order}
use Rattle.ante_rows.specs.Rows.{rows_of}
use Rattle.ante_answers.specs.Answers.{not_below}
use Rattle.ante_answers.proofs.Between.{from_lower, from_least}
use Rattle.ante_answers.proofs.ranges.first_from.Goals as goal

pub returns-in-Some-clause-nearest : goal.returns-in-Some-clause-nearest
returns-in-Some-clause-nearest c =
    c.row_from.ensures.nearest ∙ from_lower c.in-Some.bound (rows_of table_order c.args.table.now c.args.rows.now.top.rows)
    ∙ ap (λ lower. first_where (not_below lower) (rows_of table_order c.args.table.now c.args.rows.now.top.rows)) (sym c.in-Some.is)

pub returns-in-None-clause-nearest : goal.returns-in-None-clause-nearest
returns-in-None-clause-nearest c =
    c.row_from-in-None.ensures.nearest ∙ from_least (rows_of table_order c.args.table.now c.args.rows.now.top.rows)
    ∙ ap (λ lower. first_where (not_below lower) (rows_of table_order c.args.table.now c.args.rows.now.top.rows)) (sym c.in-None.is)
