use Rattle.std.proofs.Common.{sym, ap, ◌∙◌}
use Rattle.std.specs.FinMap.Entries.{find}
use Rattle.ante_undo.specs.Slots.{live}
use Rattle.ante_undo.proofs.Shelves.{newest_under}
use Rattle.ante_undo.proofs.Sides.{unnamed_back}
use Rattle.ante_undo.proofs.layered.Layered.replaced.Goals as goal

pub returns-clause-under : goal.returns-clause-under
returns-clause-under g c =
    rw (← c.self.view_is) (newest_under g.K.Ord.cmp c.self.inside.slots.entries c.self.inside.logs c.in-Some.ensures.some.0 c.in-Some.log.now c.self.inside.shelf c.self.inside.revision c.in-Some.ensures.some.1)

pub returns-clause-unchanged : goal.returns-clause-unchanged
returns-clause-unchanged g c =
    rw (← c.self.view_is)
    (λ key h.
    sym (unnamed_back g.K.Ord.cmp g.met.K.Ord.total key (live c.self.inside.slots.entries) c.in-Some.log.now h)
    ∙ ap (find g.K.Ord.cmp key) (newest_under g.K.Ord.cmp c.self.inside.slots.entries c.self.inside.logs c.in-Some.ensures.some.0 c.in-Some.log.now c.self.inside.shelf c.self.inside.revision c.in-Some.ensures.some.1))
