use Rattle.std.proofs.Common.{rules, ◌+◌, ◌^◌, ◌<◌, length, sym, ap, ◌∙◌, arith}
use Rattle.std.proofs.lemmas.List.{length-drop}
use Rattle.ante_undo.proofs.Moves.{nothing_left}
use Rattle.ante_undo.proofs.Shelves.{drop_kept, drop_shown, shelved_few}
use Rattle.ante_undo.proofs.layered.Layered.drop_shelf.Goals as goal

pub unreachable-requires-in_default-append : goal.unreachable-requires-in_default-append
unreachable-requires-in_default-append g c =
    let few = shelved_few g.K.Ord.cmp c.self.inside.slots.entries c.self.inside.logs c.self.inside.shelf c.in-Some.aside c.self.inside.changes c.self.inside.revision c.self.invariant (sym c.take.ensures.value ∙ c.in-Some.is) in
    let small = c.self.invariant.small in
    let fits : length c.in-Some.aside.below + length c.self.inside.logs < 2 ^ 63 = omega arith in
    let ok = c.append.ensures.succeeds fits in
    search rules

pub returns : goal.returns
returns g c =
    rw (← c.self.view_is, c.take.ensures.after)
    (drop_shown g.K.Ord.cmp c.self.inside.slots.entries c.close.new.slots.entries c.self.inside.logs c.append.new.self c.close.new.logs c.self.inside.shelf c.in-Some.aside c.self.inside.changes c.self.inside.revision c.self.invariant
    (sym c.take.ensures.value ∙ c.in-Some.is) c.close.ensures.map c.in-Ok.ensures.items)

pub invariant_of-self : goal.invariant_of-self
invariant_of-self g c =
    rw c.take.ensures.after
    (drop_kept g.K.Ord.cmp c.self.inside.slots.entries c.close.new.slots.entries c.self.inside.logs c.append.new.self c.close.new.logs c.self.inside.shelf c.in-Some.aside c.self.inside.changes c.self.inside.revision c.self.invariant
    (sym c.take.ensures.value ∙ c.in-Some.is) c.close.ensures.map c.in-Ok.ensures.items c.close.ensures.ordered c.close.ensures.released
    (let cut = ap length c.close.ensures.logs in let count = c.len-count.ensures.value in let long = length-drop c.len-count.result c.in-Some.aside.shelved in nothing_left c.close.new.logs (omega arith)))
