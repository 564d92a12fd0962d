use Rattle.ante_undo.proofs.Shelves.{sound}
use Rattle.ante_undo.proofs.layered.Layered.revision.Goals as goal

pub returns-clause-sound : goal.returns-clause-sound
returns-clause-sound g c = rw (← c.self.view_is) (sound g.K.Ord.cmp c.self.inside.slots.entries c.self.inside.logs c.self.inside.shelf c.self.inside.changes c.self.inside.revision c.self.invariant)
