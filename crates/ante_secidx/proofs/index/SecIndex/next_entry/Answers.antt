use Rattle.std.proofs.Common.{sym, ap, ◌∙◌, option_map}
use Rattle.std.specs.Map.Iter.{deref_pair}
use Rattle.ante_undo.specs.Entries.{first_entry}
use Rattle.ante_sessions.specs.Walk.{past}
use Rattle.ante_secidx.specs.Index.{place_key, shown_row}
use Rattle.ante_state.specs.Orders.{index_order}
use Rattle.ante_secidx.proofs.index.SecIndex.next_entry.Goals as goal

pub returns-in-Some-clause-next : goal.returns-in-Some-clause-next
returns-in-Some-clause-next g c =
    ap (λ o. option_map shown_row (option_map deref_pair o)) (sym c.in-Some.is)
    ∙ ap (option_map shown_row) c.next_entry.ensures.next
    ∙ ap (λ after. option_map shown_row (first_entry (past (index_order g.K.Ord.cmp) after c.rows-rows.result.now.top))) c.place_of.ensures
    ∙ ap (λ m. option_map shown_row (first_entry (past (index_order g.K.Ord.cmp) (option_map place_key c.args.after) m))) c.rows-rows.ensures.rows

pub returns-in-None-clause-next : goal.returns-in-None-clause-next
returns-in-None-clause-next g c =
    ap (λ o. option_map shown_row (option_map deref_pair o)) (sym c.in-None.is)
    ∙ ap (option_map shown_row) c.next_entry.ensures.next
    ∙ ap (λ after. option_map shown_row (first_entry (past (index_order g.K.Ord.cmp) after c.rows-rows.result.now.top))) c.place_of.ensures
    ∙ ap (λ m. option_map shown_row (first_entry (past (index_order g.K.Ord.cmp) (option_map place_key c.args.after) m))) c.rows-rows.ensures.rows
