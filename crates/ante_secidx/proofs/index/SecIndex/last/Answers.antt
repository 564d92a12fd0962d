use Rattle.std.proofs.Common.{◌≤◌, T, refl, sym, ap, subst, ◌∙◌, option_map}
use Rattle.std.specs.Ordering.{is_le}
use Rattle.ante_undo.specs.Entries.{entry_up_to}
use Rattle.ante_secidx.specs.Keys.{greatest_64}
use Rattle.ante_secidx.specs.Index.{in_table, index_of}
use Rattle.ante_state.specs.Orders.{pair_order}
use Rattle.ante_secidx.proofs.Bounds.{last_is, all_of, all_weaker}
use Rattle.ante_secidx.proofs.Neighbours.{last_in}
use Rattle.ante_secidx.proofs.index.SecIndex.last.Goals as goal

pub returns : goal.returns
returns g c =
    c.pair_in.ensures
    ∙ ap (λ o. option_map (λ e. e.0) (in_table c.args.table o)) c.at_or_before.ensures.nearest
    ∙ ap (option_map (λ e. e.0)) (last_in g.K.Ord.cmp c.total_order.ensures is_le refl refl c.args.table c.greatest.result greatest_64 _ (subst T (sym c.at_or_before.ensures.ordered) tt))
    ∙ ap (λ m. option_map (λ e. e.0) (entry_up_to (pair_order g.K.Ord.cmp) (c.greatest.result, greatest_64) (index_of c.args.table m))) c.rows-rows.ensures.rows
    ∙ ap (option_map (λ e. e.0)) (last_is g.K.Ord.cmp c.greatest.result (index_of c.args.table c.args.self.now.top)
    (all_weaker (λ e p. (c.greatest.ensures e.0.0 p.0, p.1)) _ (all_of (λ key primary. g.K.SecKey.fits key × (primary ≤ greatest_64)) c.args.table c.args.self.now.top c.rows-rows.ensures.fit)))
