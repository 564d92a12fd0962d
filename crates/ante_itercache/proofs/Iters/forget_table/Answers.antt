use Rattle.std.proofs.Common.{subst}
use Rattle.ante_state.specs.Orders.{table_order}
use Rattle.ante_itercache.specs.Places.{HasPlaces}
use Rattle.ante_itercache.proofs.Back.{place_popped}
use Rattle.ante_itercache.proofs.Keys.{table_ties, table_itself}
use Rattle.ante_itercache.proofs.Iters.forget_table.Goals as goal

pub invariant_of-self : goal.invariant_of-self
invariant_of-self c =
    let m = c.self.inside.table_places in (
      place_popped table_order (λ key. key) table_ties table_itself (λ a b e. e) m c.remove.new.self c.pop.new.self.items c.in-Some.key
          (subst (HasPlaces table_order (λ key. key) m) c.in-Some.ensures.items c.self.invariant.0) c.remove.ensures.updates.0,
      c.self.invariant.1,
    )
