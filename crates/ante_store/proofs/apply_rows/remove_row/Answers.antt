use Rattle.std.proofs.Common.{None, ap, ◌∙◌}
use Rattle.ante_store.specs.Changes.{without_row}
use Rattle.ante_store.proofs.Made.{leads_within}
use Rattle.ante_store.proofs.RowsMade.{row_removed, rows_made}
use Rattle.ante_store.proofs.apply_rows.remove_row.Goals as goal

pub rebill-requires-clause-within : goal.rebill-requires-clause-within
rebill-requires-clause-within c = leads_within _ _ _ _ _ c.requires.billed (row_removed c.args.table c.args.primary c.in-Some.was.now c.table_at-object.result c.row_bill-row.result c.with_closing-removed.result c.none.result c.args.parts.now.top c.requires.billed
    c.table_at-object.ensures c.row_bill-row.ensures c.with_closing-removed.ensures c.none.ensures c.in-Some.ensures)

pub returns-clause-answers : goal.returns-clause-answers
returns-clause-answers c =
    rows_made _ _ _ c.args.table _ _ c.args.primary None c.args.parts.now c.rebill.new.parts c.set_table.new.parts c.remove_row.new.parts
    (c.without_row.ensures ∙ ap without_row c.table_at-object.ensures) c.requires.billed
    (row_removed c.args.table c.args.primary c.in-Some.was.now c.table_at-object.result c.row_bill-row.result c.with_closing-removed.result c.none.result c.args.parts.now.top c.requires.billed
    c.table_at-object.ensures c.row_bill-row.ensures c.with_closing-removed.ensures c.none.ensures c.in-Some.ensures)
    c.in_ok-rebill.ensures.ok c.in_ok-rebill.ensures.small c.in_ok-rebill.ensures.same c.in_ok-set_table.ensures.ok c.in_ok-remove_row.ensures.ok
