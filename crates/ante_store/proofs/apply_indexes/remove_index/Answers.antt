use Rattle.std.proofs.Common.{ap, ◌∙◌}
use Rattle.ante_secidx.specs.Index.{without_index_row}
use Rattle.ante_store.specs.Changes.{without_row}
use Rattle.ante_store.proofs.Made.{leads_within}
use Rattle.ante_store.proofs.IndexesMade.{index_removed, index_made}
use Rattle.ante_store.proofs.apply_indexes.remove_index.Goals as goal

pub rebill-requires-clause-within : goal.rebill-requires-clause-within
rebill-requires-clause-within g c = leads_within _ _ _ _ _ c.requires.billed (index_removed g.W.Ord.cmp g.W.Billed.bytes g.W.Width.rows g.W.Width.with_rows c.is_slot.ensures g.W.Billed.storing g.W.Billed.updating g.W.Billed.removing c.are_changes.ensures c.args.table c.args.primary c.in-Some.was c.row_size.result c.table_at-object.result c.with_closing-removed.result c.none.result c.args.parts.now.top c.requires.billed
    c.table_at-object.ensures c.row_size.ensures c.with_closing-removed.ensures c.none.ensures c.in-Some.ensures)

pub returns-clause-answers : goal.returns-clause-answers
returns-clause-answers g c =
    index_made g.W.Ord.cmp g.W.Billed.bytes g.W.Width.rows g.W.Width.with_rows _ _ _ c.args.table _ _ (without_index_row g.W.Ord.cmp c.args.table c.args.primary) c.args.parts.now c.rebill.new.parts c.set_table.new.parts c.remove_index.new.parts
    (c.without_row.ensures ∙ ap without_row c.table_at-object.ensures) c.requires.billed
    (index_removed g.W.Ord.cmp g.W.Billed.bytes g.W.Width.rows g.W.Width.with_rows c.is_slot.ensures g.W.Billed.storing g.W.Billed.updating g.W.Billed.removing c.are_changes.ensures c.args.table c.args.primary c.in-Some.was c.row_size.result c.table_at-object.result c.with_closing-removed.result c.none.result c.args.parts.now.top c.requires.billed
    c.table_at-object.ensures c.row_size.ensures c.with_closing-removed.ensures c.none.ensures c.in-Some.ensures)
    c.in_ok-rebill.ensures.ok c.in_ok-rebill.ensures.small c.in_ok-rebill.ensures.same c.in_ok-set_table.ensures.ok c.in_ok-remove_index.ensures.ok
