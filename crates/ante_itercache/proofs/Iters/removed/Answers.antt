use Rattle.std.proofs.Common.{◌≡◌, ℕ, ◌<◌, length, Some, nat_abs, to_z, of_z, to_z-of_z, w32, sym, ap, ◌∙◌, subst}
use Rattle.ante_state.specs.declared.tables.RowKey.{RowKey}
use Rattle.ante_state.specs.Orders.{row_order}
use Rattle.ante_itercache.specs.Iterators.{Iterators, live_row, row_removed}
use Rattle.ante_itercache.specs.Places.{HasPlaces, live_at}
use Rattle.ante_itercache.proofs.Removed.{nothing_removed, set_is_dead, place_removed, live_row_place, live_row_within, removed_place}
use Rattle.ante_itercache.proofs.Iters.removed.Goals as goal

pub returns-in_default : goal.returns-in_default
returns-in_default c = nothing_removed c.args.value c.args.self.now (ap (λ v. live_row v c.args.self.now) (sym (to_z-of_z c.ranges.value)) ∙ sym c.get.ensures ∙ c.in_default.is)

pub index_mut-requires : goal.index_mut-requires
index_mut-requires c =
    let i : Iterators = record { tables = c.self.inside.tables.items; rows = c.self.inside.rows.items } in
    let k : ℕ = nat_abs (to_z w32 (of_z w32 c.args.value)) in
    let same : k ≡ nat_abs c.args.value = ap nat_abs (to_z-of_z c.ranges.value) in
    let live : live_row c.args.value i ≡ Some (c.in-Some.table, c.in-Some.primary) = ap (live_row c.args.value) c.self.view_is ∙ ap (λ v. live_row v c.args.self.now) (sym (to_z-of_z c.ranges.value)) ∙ sym c.get.ensures ∙ c.in-Some.is in
    let within : k < length c.self.inside.rows.items = live_row_within c.args.value i c.in-Some.table c.in-Some.primary live k same in
    subst (λ n. k < n) (sym c.self.inside.rows.ok.0) within

pub invariant_of-self : goal.invariant_of-self
invariant_of-self c =
    let i : Iterators = record { tables = c.self.inside.tables.items; rows = c.self.inside.rows.items } in
    let k : ℕ = nat_abs (to_z w32 (of_z w32 c.args.value)) in
    let same : k ≡ nat_abs c.args.value = ap nat_abs (to_z-of_z c.ranges.value) in
    let live : live_row c.args.value i ≡ Some (c.in-Some.table, c.in-Some.primary) = ap (live_row c.args.value) c.self.view_is ∙ ap (λ v. live_row v c.args.self.now) (sym (to_z-of_z c.ranges.value)) ∙ sym c.get.ensures ∙ c.in-Some.is in
    let within : k < length c.self.inside.rows.items = live_row_within c.args.value i c.in-Some.table c.in-Some.primary live k same in
    let key : RowKey = record { table = c.in-Some.table; primary = c.in-Some.primary } in (
      c.self.invariant.0,
      subst (HasPlaces row_order live_at c.remove.new.self) (sym (set_is_dead c.self.inside.rows.items k c.index_mut.result.now within c.index_mut.ensures.value))
          (place_removed c.self.inside.row_places c.remove.new.self c.self.inside.rows.items key k c.self.invariant.1 (live_row_place c.args.value i c.in-Some.table c.in-Some.primary live k same) c.remove.ensures.updates.0),
    )

pub returns : goal.returns
returns c =
    let i : Iterators = record { tables = c.self.inside.tables.items; rows = c.self.inside.rows.items } in
    let k : ℕ = nat_abs (to_z w32 (of_z w32 c.args.value)) in
    let same : k ≡ nat_abs c.args.value = ap nat_abs (to_z-of_z c.ranges.value) in
    let live : live_row c.args.value i ≡ Some (c.in-Some.table, c.in-Some.primary) = ap (live_row c.args.value) c.self.view_is ∙ ap (λ v. live_row v c.args.self.now) (sym (to_z-of_z c.ranges.value)) ∙ sym c.get.ensures ∙ c.in-Some.is in
    let within : k < length c.self.inside.rows.items = live_row_within c.args.value i c.in-Some.table c.in-Some.primary live k same in
    ap (λ rows. record { tables = c.self.inside.tables.items; rows = rows }) (set_is_dead c.self.inside.rows.items k c.index_mut.result.now within c.index_mut.ensures.value)
    ∙ sym (removed_place c.args.value i c.in-Some.table c.in-Some.primary live k same) ∙ ap (row_removed c.args.value) c.self.view_is
