use Rattle.std.proofs.Common.{rules, ◌+◌, ◌≤◌, IsNone, length, ◌-◌, refl, sym, subst, ap, arith}
use Rattle.ante_undo.proofs.Held.{no_shelf}
use Rattle.ante_undo.proofs.Shelves.{shelve_kept, shelve_shown, counts}
use Rattle.ante_undo.specs.Kept.{below_of}
use Rattle.ante_undo.proofs.layered.Layered.shelve.Goals as goal

pub move_sessions-requires-clause-within : goal.move_sessions-requires-clause-within
move_sessions-requires-clause-within g c =
    let alone = no_shelf g.K.Ord.cmp c.self.inside.slots.entries c.self.inside.logs c.self.inside.changes c.self.inside.revision c.self.inside.shelf (subst (λ s. IsNone s.shelf) (sym c.self.view_is) c.requires.no_shelf) in
    let below = ap (λ a. length (below_of a)) alone in
    let many = counts g.K.Ord.cmp c.self.inside.slots.entries c.self.inside.logs c.self.inside.shelf in
    let from = subst (λ s. s.revision ≤ c.args.revision + length s.under) (sym c.self.view_is) c.requires.from in
    omega arith

pub returns : goal.returns
returns g c =
    let alone = no_shelf g.K.Ord.cmp c.self.inside.slots.entries c.self.inside.logs c.self.inside.changes c.self.inside.revision c.self.inside.shelf (subst (λ s. IsNone s.shelf) (sym c.self.view_is) c.requires.no_shelf) in
    rw (← c.self.view_is)
    (shelve_shown g.K.Ord.cmp c.self.inside.slots.entries c.move_sessions.new.slots.entries c.self.inside.logs c.new-shelved.result c.move_sessions.new.from c.move_sessions.new.to c.self.inside.shelf c.self.inside.changes c.self.inside.revision c.args.revision
    (c.self.inside.revision - c.args.revision) c.self.invariant alone c.move_sessions.ensures.moved c.new-shelved.ensures c.move_sessions.ensures.length refl (subst (λ s. c.args.revision ≤ s.revision) (sym c.self.view_is) c.requires.to)
    c.replace-below.new.dest c.replace-below.result (search rules) c.replace-below.ensures.value)

pub invariant_of-self : goal.invariant_of-self
invariant_of-self g c =
    let alone = no_shelf g.K.Ord.cmp c.self.inside.slots.entries c.self.inside.logs c.self.inside.changes c.self.inside.revision c.self.inside.shelf (subst (λ s. IsNone s.shelf) (sym c.self.view_is) c.requires.no_shelf) in
    shelve_kept g.K.Ord.cmp c.self.inside.slots.entries c.move_sessions.new.slots.entries c.self.inside.logs c.new-shelved.result c.move_sessions.new.from c.move_sessions.new.to c.self.inside.shelf c.self.inside.changes c.self.inside.revision c.args.revision
    (c.self.inside.revision - c.args.revision) c.self.invariant alone c.move_sessions.ensures.moved c.new-shelved.ensures c.move_sessions.ensures.length refl (subst (λ s. c.args.revision ≤ s.revision) (sym c.self.view_is) c.requires.to)
    c.replace-below.new.dest c.replace-below.result (search rules) c.replace-below.ensures.value c.move_sessions.ensures.ordered
