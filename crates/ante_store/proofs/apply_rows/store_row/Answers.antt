use Rattle.std.proofs.Common.{Some, sym, ap, ◌∙◌, arith}
use Rattle.std.proofs.lemmas.Result.{err_from_is_err_and}
use Rattle.ante_store.specs.Changes.{with_row}
use Rattle.ante_store.proofs.Made.{unpaid}
use Rattle.ante_store.proofs.RowsMade.{row_stored, rows_made}
use Rattle.ante_store.proofs.apply_rows.store_row.Goals as goal

pub returns-in_err-rebill-clause-answers : goal.returns-in_err-rebill-clause-answers
returns-in_err-rebill-clause-answers c =
    let p = err_from_is_err_and c.from_residual.result c.from_residual.ensures.1 in
    rw (p.1, p.2) (unpaid _ _ _ _ _ _ c.requires.billed (row_stored c.args.table c.args.primary c.args.payer c.args.bytes c.table_at-object.result c.row_bill.result c.none.result c.with_opening-added.result c.args.parts.now.top c.requires.billed
    c.table_at-object.ensures c.row_bill.ensures c.none.ensures c.with_opening-added.ensures (sym c.has_row.ensures ∙ c.if-has_row.false) (omega (arith, c.count_of.ensures, c.if-count_of-ge-MOST_ROWS.false))) c.in_err-rebill.ensures.err)

pub returns-clause-answers : goal.returns-clause-answers
returns-clause-answers c =
    rows_made _ _ _ c.args.table _ _ c.args.primary (Some (record { payer = c.args.payer; bytes = c.args.bytes })) c.args.parts.now c.rebill.new.parts c.set_table.new.parts c.put_row.new.parts
    (ap Some c.with_row.ensures ∙ ap (λ o. Some (with_row o c.args.payer)) c.table_at-object.ensures) c.requires.billed
    (row_stored c.args.table c.args.primary c.args.payer c.args.bytes c.table_at-object.result c.row_bill.result c.none.result c.with_opening-added.result c.args.parts.now.top c.requires.billed
    c.table_at-object.ensures c.row_bill.ensures c.none.ensures c.with_opening-added.ensures (sym c.has_row.ensures ∙ c.if-has_row.false) (omega (arith, c.count_of.ensures, c.if-count_of-ge-MOST_ROWS.false)))
    c.in_ok-rebill.ensures.ok c.in_ok-rebill.ensures.small c.in_ok-rebill.ensures.same c.in_ok-set_table.ensures.ok c.in_ok-put_row.ensures.ok
