use Rattle.std.proofs.Common.{T, refl, sym, ap, subst, ◌∙◌, option_map}
use Rattle.std.specs.Ordering.{is_ge}
use Rattle.ante_undo.specs.Entries.{entry_from}
use Rattle.ante_secidx.specs.Index.{in_table, index_of}
use Rattle.ante_state.specs.Orders.{pair_order}
use Rattle.ante_secidx.proofs.Neighbours.{first_in}
use Rattle.ante_secidx.proofs.index.SecIndex.first_from.Goals as goal

pub returns : goal.returns
returns g c =
    c.pair_in.ensures
    ∙ ap (λ o. option_map (λ e. e.0) (in_table c.args.place.table o)) c.at_or_after.ensures.nearest
    ∙ ap (option_map (λ e. e.0)) (first_in g.K.Ord.cmp c.total_order.ensures is_ge refl refl c.args.place.table c.args.place.key c.args.place.primary _ (subst T (sym c.at_or_after.ensures.ordered) tt))
    ∙ ap (λ m. option_map (λ e. e.0) (entry_from (pair_order g.K.Ord.cmp) (c.args.place.key, c.args.place.primary) (index_of c.args.place.table m))) c.rows-rows.ensures.rows
