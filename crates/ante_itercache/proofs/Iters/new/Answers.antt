use Rattle.ante_state.specs.Orders.{table_order, row_order}
use Rattle.ante_itercache.specs.Places.{live_at}
use Rattle.ante_itercache.proofs.Places.{places_of_none}
use Rattle.ante_itercache.proofs.Iters.new.Goals as goal

pub invariant_of-result : goal.invariant_of-result
invariant_of-result c = (places_of_none table_order (λ key. key) _ _ c.new-3.ensures.empty c.new.ensures.items, places_of_none row_order live_at _ _ c.new-4.ensures.empty c.new-2.ensures.items)
