use Rattle.std.proofs.Common.{◌∙◌, reverse, ap, sym}
use Rattle.ante_undo.specs.Entries.{first_where}
use Rattle.ante_state.specs.Orders.{table_order}
use Rattle.ante_rows.specs.Rows.{rows_of}
use Rattle.ante_answers.specs.Answers.{not_above}
use Rattle.ante_answers.proofs.Between.{from_greatest}
use Rattle.ante_answers.proofs.ranges.last_up_to.Goals as goal

pub returns-in-Some-clause-nearest : goal.returns-in-Some-clause-nearest
returns-in-Some-clause-nearest c =
    c.last_at.ensures.nearest ∙ ap (λ upper. first_where (not_above upper) (reverse (rows_of table_order c.args.table.now c.args.rows.now.top.rows))) (sym c.in-Some.is)

pub returns-in-None-clause-nearest : goal.returns-in-None-clause-nearest
returns-in-None-clause-nearest c =
    c.row_last.ensures ∙ from_greatest (rows_of table_order c.args.table.now c.args.rows.now.top.rows)
    ∙ ap (λ upper. first_where (not_above upper) (reverse (rows_of table_order c.args.table.now c.args.rows.now.top.rows))) (sym c.in-None.is)
