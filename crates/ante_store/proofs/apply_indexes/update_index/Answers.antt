use Rattle.std.proofs.Common.{refl}
use Rattle.std.proofs.lemmas.Result.{err_from_is_err_and}
use Rattle.ante_secidx.specs.Index.{moved}
use Rattle.ante_store.proofs.Made.{leads_within, made_then, unpaid}
use Rattle.ante_store.proofs.IndexesMade.{with_index, index_updated}
use Rattle.ante_store.proofs.apply_indexes.update_index.Goals as goal

pub rebill-requires-clause-within : goal.rebill-requires-clause-within
rebill-requires-clause-within g c = leads_within _ _ _ _ _ c.requires.billed (index_updated g.W.Ord.cmp g.W.Billed.bytes g.W.Width.rows g.W.Width.with_rows c.is_slot.ensures g.W.Billed.storing g.W.Billed.updating g.W.Billed.removing c.are_changes.ensures c.args.table c.args.key c.args.primary c.args.payer c.in-Some.was c.row_size.result c.row_size-2.result c.one-removed.result c.one-added.result c.args.parts.now.top c.requires.billed
    c.row_size.ensures c.row_size-2.ensures c.one-removed.ensures c.one-added.ensures c.in-Some.ensures (c.rows_are_single.ensures c.args.table c.args.primary))

pub returns-in_err-rebill-clause-answers : goal.returns-in_err-rebill-clause-answers
returns-in_err-rebill-clause-answers g c =
    let p = err_from_is_err_and c.from_residual.result c.from_residual.ensures.1 in
    rw (p.1, p.2) (unpaid _ _ _ _ _ _ c.requires.billed (index_updated g.W.Ord.cmp g.W.Billed.bytes g.W.Width.rows g.W.Width.with_rows c.is_slot.ensures g.W.Billed.storing g.W.Billed.updating g.W.Billed.removing c.are_changes.ensures c.args.table c.args.key c.args.primary c.args.payer c.in-Some.was c.row_size.result c.row_size-2.result c.one-removed.result c.one-added.result c.args.parts.now.top c.requires.billed
    c.row_size.ensures c.row_size-2.ensures c.one-removed.ensures c.one-added.ensures c.in-Some.ensures (c.rows_are_single.ensures c.args.table c.args.primary)) c.in_err-rebill.ensures.err)

pub returns-clause-answers : goal.returns-clause-answers
returns-clause-answers g c =
    made_then _ _ _ (with_index g.W.Ord.cmp g.W.Billed.bytes g.W.Width.rows g.W.Width.with_rows (moved g.W.Ord.cmp c.args.table c.args.key c.args.primary c.args.payer)) _ c.args.parts.now c.rebill.new.parts c.move_index.new.parts (λ shares. refl) c.requires.billed
    (index_updated g.W.Ord.cmp g.W.Billed.bytes g.W.Width.rows g.W.Width.with_rows c.is_slot.ensures g.W.Billed.storing g.W.Billed.updating g.W.Billed.removing c.are_changes.ensures c.args.table c.args.key c.args.primary c.args.payer c.in-Some.was c.row_size.result c.row_size-2.result c.one-removed.result c.one-added.result c.args.parts.now.top c.requires.billed
    c.row_size.ensures c.row_size-2.ensures c.one-removed.ensures c.one-added.ensures c.in-Some.ensures (c.rows_are_single.ensures c.args.table c.args.primary))
    c.in_ok-rebill.ensures.ok c.in_ok-rebill.ensures.small c.in_ok-rebill.ensures.same c.in_ok-move_index.ensures.ok
