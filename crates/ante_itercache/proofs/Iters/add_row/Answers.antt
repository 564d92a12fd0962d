use Rattle.std.proofs.Common.{◌≡◌, None, position, length, ◌++◌, ◌∷◌, [], ap, ◌∙◌}
use Rattle.std.specs.BTreeMap.{get}
use Rattle.ante_state.specs.Orders.{row_order}
use Rattle.ante_itercache.specs.Iterators.{is_row}
use Rattle.ante_itercache.specs.Places.{live_at}
use Rattle.ante_itercache.proofs.Places.{places_stay, place_found, place_pushed}
use Rattle.ante_itercache.proofs.Keys.{one_row, row_passes, row_ties, row_itself, live_apart}
use Rattle.ante_itercache.proofs.Iters.add_row.Goals as goal

pub invariant_of-self-in_err-insert : goal.invariant_of-self-in_err-insert
invariant_of-self-in_err-insert c = (c.self.invariant.0, places_stay row_order live_at _ _ _ _ c.in_err-insert.ensures.err c.reserve.ensures.items c.self.invariant.1)

pub invariant_of-self-2 : goal.invariant_of-self-2
invariant_of-self-2 c =
    let key = c.args.key in
    let m = c.self.inside.row_places in
    let xs = c.self.inside.rows.items in
    let absent : get row_order m key ≡ None =
    place_found row_order live_at (is_row key.table key.primary) key (one_row key) (row_passes key) m xs c.self.invariant.1
    ∙ ap (λ i. position (is_row key.table key.primary) i.rows) c.self.view_is ∙ c.requires in (
      c.self.invariant.0,
      place_pushed row_order live_at row_ties row_itself live_apart m c.insert.new.self xs c.push_reserved.new.self.items key (length c.as_slice-place.result.now)
          (ap (λ xs. length xs) c.as_slice-place.ensures.value) (c.push_reserved.ensures.items ∙ ap (λ xs. xs ++ live_at key ∷ []) c.reserve.ensures.items) c.self.invariant.1 absent c.in_ok-insert.ensures.updates.0,
    )
