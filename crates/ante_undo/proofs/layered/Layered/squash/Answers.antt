use Rattle.std.proofs.Common.{◌∷◌, [], length, ap, arith}
use Rattle.ante_undo.proofs.Back.{length_append}
use Rattle.ante_undo.proofs.Held.{some_open, squash_room, squash_kept, squash_shown}
use Rattle.ante_undo.proofs.layered.Layered.squash.Goals as goal

pub join_last-requires : goal.join_last-requires
join_last-requires g c =
    let some = some_open g.K.Ord.cmp c.self.inside.slots.entries c.self.inside.logs c.self.inside.changes c.self.inside.revision c.self.inside.shelf 2 c.self.invariant c.self.view_is c.requires.sessions c.requires.above in
    let long = ap length c.in-Some.ensures.items in
    let parts = length_append c.pop_back.new.self (c.in-Some.newest ∷ []) in
    record {
      some = omega arith;
      room = squash_room g.K.Ord.cmp c.self.inside.slots.entries c.self.inside.logs c.pop_back.new.self c.in-Some.newest c.self.inside.shelf c.self.inside.changes c.self.inside.revision c.in-Some.ensures.items c.self.invariant;
    }

pub returns : goal.returns
returns g c =
    rw (← c.self.view_is)
    (squash_shown g.K.Ord.cmp c.self.inside.slots.entries c.self.inside.logs c.pop_back.new.self c.join_last.new.logs c.in-Some.newest c.self.inside.shelf c.self.inside.changes c.self.inside.revision c.in-Some.ensures.items c.join_last.ensures c.self.invariant)

pub invariant_of-self : goal.invariant_of-self
invariant_of-self g c =
    squash_kept g.K.Ord.cmp c.self.inside.slots.entries c.self.inside.logs c.pop_back.new.self c.join_last.new.logs c.in-Some.newest c.self.inside.shelf c.self.inside.changes c.self.inside.revision c.in-Some.ensures.items c.join_last.ensures c.self.invariant
