use Rattle.std.proofs.Common.{◌+◌, ◌^◌, ◌<◌, sym, subst}
use Rattle.ante_undo.proofs.Held.{begin_kept, begin_shown}
use Rattle.ante_undo.proofs.layered.Layered.begin.Goals as goal

pub invariant_of-self-2 : goal.invariant_of-self-2
invariant_of-self-2 g c =
    begin_kept g.K.Ord.cmp c.self.inside.slots.entries c.self.inside.logs c.push_back.new.self c.new.result c.self.inside.shelf c.self.inside.changes c.self.inside.revision c.new.ensures c.in_ok-push_back.ensures.items
    c.self.invariant (subst (λ s. s.revision + 1 < 2 ^ 63) (sym c.self.view_is) c.requires.small)

pub returns-clause-ok : goal.returns-clause-ok
returns-clause-ok g c =
    rw (← c.self.view_is)
    (begin_shown g.K.Ord.cmp c.self.inside.slots.entries c.self.inside.logs c.push_back.new.self c.new.result c.self.inside.shelf c.self.inside.changes c.self.inside.revision c.new.ensures c.in_ok-push_back.ensures.items)
