use Rattle.std.proofs.Common.{◌≡◌, ◌∷◌, [], ◌++◌, true≢false, sym, ap, subst, ◌∙◌}
use Rattle.ante_state.specs.declared.tables.RowKey.{RowKey}
use Rattle.ante_state.specs.Orders.{row_order}
use Rattle.ante_itercache.specs.Places.{HasPlaces, live_at}
use Rattle.ante_itercache.proofs.Back.{none_popped, place_popped}
use Rattle.ante_itercache.proofs.Keys.{row_ties, row_itself, live_apart}
use Rattle.ante_itercache.proofs.Iters.forget_row.Goals as goal

pub invariant_of-self-then-row : goal.invariant_of-self-then-row
invariant_of-self-then-row c =
    let m = c.self.inside.row_places in
    let row = c.in-Some.row in
    let key : RowKey = record { table = row.table; primary = row.primary } in
    let same : row ≡ live_at key = λ i. record { table = row.table; primary = row.primary; live = c.if-row.true i } in (
      c.self.invariant.0,
      place_popped row_order live_at row_ties row_itself live_apart m c.remove.new.self c.pop.new.self.items key
          (subst (HasPlaces row_order live_at m) (c.in-Some.ensures.items ∙ ap (λ x. c.pop.new.self.items ++ x ∷ []) same) c.self.invariant.1) c.remove.ensures.updates.0,
    )

pub invariant_of-self-else-row : goal.invariant_of-self-else-row
invariant_of-self-else-row c =
    let m = c.self.inside.row_places in (
      c.self.invariant.0,
      none_popped row_order live_at m c.pop.new.self.items c.in-Some.row (λ q e. true≢false (sym (ap (λ r. r.live) e) ∙ c.if-row.false))
          (subst (HasPlaces row_order live_at m) c.in-Some.ensures.items c.self.invariant.1),
    )
