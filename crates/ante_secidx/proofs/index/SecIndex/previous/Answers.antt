use Rattle.std.proofs.Common.{T, refl, sym, ap, subst, ◌∙◌, option_map}
use Rattle.std.specs.Ordering.{is_lt}
use Rattle.ante_undo.specs.Entries.{entry_before}
use Rattle.ante_secidx.specs.Index.{in_table, index_of}
use Rattle.ante_state.specs.Orders.{pair_order}
use Rattle.ante_secidx.proofs.Neighbours.{last_in}
use Rattle.ante_secidx.proofs.index.SecIndex.previous.Goals as goal

pub returns : goal.returns
returns g c =
    c.pair_in.ensures
    ∙ ap (λ o. option_map (λ e. e.0) (in_table c.args.table o)) c.before-2.ensures.nearest
    ∙ ap (option_map (λ e. e.0)) (last_in g.K.Ord.cmp c.total_order.ensures is_lt refl refl c.args.table c.args.key c.args.primary _ (subst T (sym c.before-2.ensures.ordered) tt))
    ∙ ap (λ m. option_map (λ e. e.0) (entry_before (pair_order g.K.Ord.cmp) (c.args.key, c.args.primary) (index_of c.args.table m))) c.rows-rows.ensures.rows
