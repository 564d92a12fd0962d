use Rattle.std.proofs.Common.{sym, ap, subst, ◌∙◌, arith}
use Rattle.ante_undo.specs.Slots.{live}
use Rattle.ante_undo.specs.Logs.{named_in_all, taken_back_all, Releases}
use Rattle.ante_undo.proofs.Moves.{nothing_left}
use Rattle.ante_undo.proofs.Shelves.{unshelve_kept, unshelve_shown}
use Rattle.ante_undo.proofs.layered.Layered.unshelve.Goals as goal

pub returns : goal.returns
returns g c =
    rw (← c.self.view_is, c.take.ensures.after, c.len.ensures.value, c.len-count.ensures.value, c.replace-since.ensures.value)
    (unshelve_shown g.K.Ord.cmp c.self.inside.slots.entries c.move_sessions.new.slots.entries c.self.inside.logs c.move_sessions.new.to c.move_sessions.new.from c.self.inside.shelf c.in-Some.aside c.self.inside.changes c.self.inside.revision c.self.invariant
    (sym c.take.ensures.value ∙ c.in-Some.is) c.undo_all.new.slots.entries c.replace-since.new.dest c.replace-since.ensures.after (c.undo_all.ensures.map ∙ ap (taken_back_all g.K.Ord.cmp (live c.self.inside.slots.entries)) c.replace-since.ensures.value)
    c.move_sessions.ensures.moved (let left = c.move_sessions.ensures.length in let count = c.len-count.ensures.value in nothing_left c.move_sessions.new.from (omega arith)))

pub invariant_of-self : goal.invariant_of-self
invariant_of-self g c =
    rw (c.take.ensures.after, c.len.ensures.value, c.len-count.ensures.value, c.replace-since.ensures.value)
    (unshelve_kept g.K.Ord.cmp c.self.inside.slots.entries c.move_sessions.new.slots.entries c.self.inside.logs c.move_sessions.new.to c.move_sessions.new.from c.self.inside.shelf c.in-Some.aside c.self.inside.changes c.self.inside.revision c.self.invariant
    (sym c.take.ensures.value ∙ c.in-Some.is) c.undo_all.new.slots.entries c.replace-since.new.dest c.replace-since.ensures.after (c.undo_all.ensures.map ∙ ap (taken_back_all g.K.Ord.cmp (live c.self.inside.slots.entries)) c.replace-since.ensures.value)
    c.move_sessions.ensures.moved (let left = c.move_sessions.ensures.length in let count = c.len-count.ensures.value in nothing_left c.move_sessions.new.from (omega arith))
    (subst (λ l. Releases g.K.Ord.cmp c.self.inside.slots.entries c.undo_all.new.slots.entries (λ q. named_in_all g.K.Ord.cmp q l) (λ q. 0)) c.replace-since.ensures.value c.undo_all.ensures.released)
    c.move_sessions.ensures.ordered)
