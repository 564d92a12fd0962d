use Rattle.std.proofs.Common.{length, ap, arith}
use Rattle.ante_undo.proofs.Held.{some_open, undo_kept, undo_shown, undo_named}
use Rattle.ante_undo.proofs.layered.Layered.undo.Goals as goal

pub returns : goal.returns
returns g c =
    rw (← c.self.view_is)
    (undo_shown g.K.Ord.cmp c.self.inside.slots.entries c.undo_log.new.slots.entries c.self.inside.logs c.pop_back.new.self c.in-Some.newest c.self.inside.shelf c.self.inside.changes c.self.inside.revision c.in-Some.ensures.items c.self.invariant c.undo_log.ensures.map)

pub invariant_of-self : goal.invariant_of-self
invariant_of-self g c =
    undo_kept g.K.Ord.cmp c.self.inside.slots.entries c.undo_log.new.slots.entries c.self.inside.logs c.pop_back.new.self c.in-Some.newest c.self.inside.shelf c.self.inside.changes c.self.inside.revision c.in-Some.ensures.items c.self.invariant c.undo_log.ensures.ordered
    c.undo_log.ensures.released

pub unreachable-requires : goal.unreachable-requires
unreachable-requires g c =
    let some = some_open g.K.Ord.cmp c.self.inside.slots.entries c.self.inside.logs c.self.inside.changes c.self.inside.revision c.self.inside.shelf 1 c.self.invariant c.self.view_is c.requires.session c.requires.above in
    let none = ap length c.in_default.ensures.cases.0 in
    absurd (omega arith)

pub undo_log-requires : goal.undo_log-requires
undo_log-requires g c = record {
  exact = c.self.invariant.exact;
  ordered = c.self.invariant.ordered;
  named = undo_named g.K.Ord.cmp c.self.inside.slots.entries c.self.inside.slots.entries c.self.inside.logs c.pop_back.new.self c.in-Some.newest c.self.inside.shelf c.self.inside.changes c.self.inside.revision c.in-Some.ensures.items c.self.invariant;
}
