use Rattle.std.proofs.Common.{Some, sym, ap, ◌∙◌, arith}
use Rattle.std.proofs.lemmas.Result.{err_from_is_err_and}
use Rattle.ante_secidx.specs.Index.{with_index_row}
use Rattle.ante_store.specs.Changes.{with_row}
use Rattle.ante_store.proofs.Made.{unpaid}
use Rattle.ante_store.proofs.IndexesMade.{index_stored, index_made}
use Rattle.ante_store.proofs.apply_indexes.store_index.Goals as goal

pub returns-in_err-rebill-clause-answers : goal.returns-in_err-rebill-clause-answers
returns-in_err-rebill-clause-answers g c =
    let p = err_from_is_err_and c.from_residual.result c.from_residual.ensures.1 in
    rw (p.1, p.2) (unpaid _ _ _ _ _ _ c.requires.billed (index_stored g.W.Ord.cmp g.W.Billed.bytes g.W.Width.rows g.W.Width.with_rows c.is_slot.ensures g.W.Billed.storing g.W.Billed.updating g.W.Billed.removing c.are_changes.ensures c.args.table c.args.key c.args.primary c.args.payer c.row_size.result c.table_at-object.result c.none.result c.with_opening-added.result c.args.parts.now.top c.requires.billed
    c.table_at-object.ensures c.row_size.ensures c.none.ensures c.with_opening-added.ensures (sym c.has_index_row.ensures ∙ c.if-has_index_row.false) (omega (arith, c.count_of.ensures, c.if-count_of-ge-MOST_ROWS.false))) c.in_err-rebill.ensures.err)

pub returns-clause-answers : goal.returns-clause-answers
returns-clause-answers g c =
    index_made g.W.Ord.cmp g.W.Billed.bytes g.W.Width.rows g.W.Width.with_rows _ _ _ c.args.table _ _ (with_index_row g.W.Ord.cmp c.args.table c.args.key c.args.primary c.args.payer) c.args.parts.now c.rebill.new.parts c.set_table.new.parts c.insert_index.new.parts
    (ap Some c.with_row.ensures ∙ ap (λ o. Some (with_row o c.args.payer)) c.table_at-object.ensures) c.requires.billed
    (index_stored g.W.Ord.cmp g.W.Billed.bytes g.W.Width.rows g.W.Width.with_rows c.is_slot.ensures g.W.Billed.storing g.W.Billed.updating g.W.Billed.removing c.are_changes.ensures c.args.table c.args.key c.args.primary c.args.payer c.row_size.result c.table_at-object.result c.none.result c.with_opening-added.result c.args.parts.now.top c.requires.billed
    c.table_at-object.ensures c.row_size.ensures c.none.ensures c.with_opening-added.ensures (sym c.has_index_row.ensures ∙ c.if-has_index_row.false) (omega (arith, c.count_of.ensures, c.if-count_of-ge-MOST_ROWS.false)))
    c.in_ok-rebill.ensures.ok c.in_ok-rebill.ensures.small c.in_ok-rebill.ensures.same c.in_ok-set_table.ensures.ok c.in_ok-insert_index.ensures.ok
