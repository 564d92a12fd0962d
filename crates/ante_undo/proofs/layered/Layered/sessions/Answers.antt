use Rattle.std.proofs.Common.{length, ap, arith}
use Rattle.ante_undo.specs.Kept.{below_of}
use Rattle.ante_undo.proofs.Shelves.{sound, counts}
use Rattle.ante_undo.proofs.layered.Layered.sessions.Goals as goal

pub returns-in-Some-clause-count : goal.returns-in-Some-clause-count
returns-in-Some-clause-count g c =
    let many = counts g.K.Ord.cmp c.self.inside.slots.entries c.self.inside.logs c.self.inside.shelf in
    let below = ap (λ a. length (below_of a)) c.in-Some.is in
    let first = c.len.ensures.value in
    let second = c.len-in-Some.ensures.value in
    rw (← c.self.view_is) (omega arith)

pub returns-in-Some-clause-sound : goal.returns-in-Some-clause-sound
returns-in-Some-clause-sound g c = rw (← c.self.view_is) (sound g.K.Ord.cmp c.self.inside.slots.entries c.self.inside.logs c.self.inside.shelf c.self.inside.changes c.self.inside.revision c.self.invariant)

pub returns-in-None-clause-count : goal.returns-in-None-clause-count
returns-in-None-clause-count g c =
    let many = counts g.K.Ord.cmp c.self.inside.slots.entries c.self.inside.logs c.self.inside.shelf in
    let below = ap (λ a. length (below_of a)) c.in-None.is in
    let first = c.len-in-None.ensures.value in
    rw (← c.self.view_is) (omega arith)

pub returns-in-None-clause-sound : goal.returns-in-None-clause-sound
returns-in-None-clause-sound g c = rw (← c.self.view_is) (sound g.K.Ord.cmp c.self.inside.slots.entries c.self.inside.logs c.self.inside.shelf c.self.inside.changes c.self.inside.revision c.self.invariant)
