use Rattle.std.proofs.Common.{position, ap, ◌∙◌}
use Rattle.ante_state.specs.Orders.{row_order}
use Rattle.ante_itercache.specs.Iterators.{is_row}
use Rattle.ante_itercache.specs.Places.{live_at}
use Rattle.ante_itercache.proofs.Places.{place_found}
use Rattle.ante_itercache.proofs.Keys.{one_row, row_passes}
use Rattle.ante_itercache.proofs.Iters.place_of_row.Goals as goal

pub returns : goal.returns
returns c =
    let key = c.args.key.now in
    c.copied.ensures ∙ c.get.ensures.value
    ∙ place_found row_order live_at (is_row key.table key.primary) key (one_row key) (row_passes key) c.self.inside.row_places c.self.inside.rows.items c.self.invariant.1
    ∙ ap (λ i. position (is_row key.table key.primary) i.rows) c.self.view_is
