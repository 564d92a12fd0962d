use Rattle.std.proofs.Common.{◌≡◌, None, position, length, ◌++◌, ◌∷◌, [], ap, ◌∙◌}
use Rattle.std.specs.BTreeMap.{get}
use Rattle.ante_state.specs.Orders.{table_order}
use Rattle.ante_itercache.specs.Iterators.{is_table}
use Rattle.ante_itercache.proofs.Places.{places_stay, place_found, place_pushed}
use Rattle.ante_itercache.proofs.Keys.{one_table, table_passes, table_ties, table_itself}
use Rattle.ante_itercache.proofs.Iters.add_table.Goals as goal

pub invariant_of-self-in_err-insert : goal.invariant_of-self-in_err-insert
invariant_of-self-in_err-insert c = (places_stay table_order (λ key. key) _ _ _ _ c.in_err-insert.ensures.err c.reserve.ensures.items c.self.invariant.0, c.self.invariant.1)

pub invariant_of-self-2 : goal.invariant_of-self-2
invariant_of-self-2 c =
    let key = c.args.key in
    let m = c.self.inside.table_places in
    let xs = c.self.inside.tables.items in
    let absent : get table_order m key ≡ None =
    place_found table_order (λ key. key) (is_table key) key (one_table key) (table_passes key) m xs c.self.invariant.0
    ∙ ap (λ i. position (is_table key) i.tables) c.self.view_is ∙ c.requires in (
      place_pushed table_order (λ key. key) table_ties table_itself (λ a b e. e) m c.insert.new.self xs c.push_reserved.new.self.items key (length c.as_slice-place.result.now)
          (ap (λ xs. length xs) c.as_slice-place.ensures.value) (c.push_reserved.ensures.items ∙ ap (λ xs. xs ++ key ∷ []) c.reserve.ensures.items) c.self.invariant.0 absent c.in_ok-insert.ensures.updates.0,
      c.self.invariant.1,
    )
