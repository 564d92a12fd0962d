use Rattle.std.proofs.Common.{position, ap, ◌∙◌}
use Rattle.ante_state.specs.Orders.{table_order}
use Rattle.ante_itercache.specs.Iterators.{is_table}
use Rattle.ante_itercache.proofs.Places.{place_found}
use Rattle.ante_itercache.proofs.Keys.{one_table, table_passes}
use Rattle.ante_itercache.proofs.Iters.place_of_table.Goals as goal

pub returns : goal.returns
returns c =
    c.copied.ensures ∙ c.get.ensures.value
    ∙ place_found table_order (λ key. key) (is_table c.args.key.now) c.args.key.now (one_table c.args.key.now) (table_passes c.args.key.now) c.self.inside.table_places c.self.inside.tables.items c.self.invariant.0
    ∙ ap (λ i. position (is_table c.args.key.now) i.tables) c.self.view_is
