use Rattle.std.proofs.Common.{sym, ap, ◌∙◌}
use Rattle.ante_undo.specs.Entries.{first_entry}
use Rattle.ante_sessions.specs.Walk.{past}
use Rattle.ante_sessions.proofs.Past.{after_first}
use Rattle.ante_sessions.proofs.walk.next_entry.Goals as goal

pub returns-in-Some-clause-next : goal.returns-in-Some-clause-next
returns-in-Some-clause-next g c =
    c.after.ensures.nearest
    ∙ after_first g.K.Ord.cmp c.in-Some.key c.args.map.now.top
    ∙ ap (λ at. first_entry (past g.K.Ord.cmp at c.args.map.now.top)) (sym c.in-Some.is)
