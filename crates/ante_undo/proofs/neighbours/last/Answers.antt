use Rattle.std.proofs.Common.{ap, ◌∙◌}
use Rattle.ante_undo.specs.Entries.{last_entry}
use Rattle.ante_undo.specs.Slots.{live}
use Rattle.ante_undo.proofs.Sides.{last_all}
use Rattle.ante_undo.proofs.neighbours.last.Goals as goal

pub returns-clause-last : goal.returns-clause-last
returns-clause-last g c =
    c.last_live.ensures
    ∙ ap (λ slots. last_entry (live slots)) (c.range.ensures.between tt)
    ∙ last_all c.args.slots.now.entries
