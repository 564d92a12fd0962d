use Rattle.std.proofs.Common.{ap, ◌∙◌}
use Rattle.ante_undo.specs.Entries.{first_entry}
use Rattle.ante_undo.specs.Slots.{live}
use Rattle.ante_undo.proofs.Sides.{first_all}
use Rattle.ante_undo.proofs.neighbours.first.Goals as goal

pub returns-clause-first : goal.returns-clause-first
returns-clause-first g c =
    c.first_live.ensures
    ∙ ap (λ slots. first_entry (live slots)) (c.range.ensures.between tt)
    ∙ first_all c.args.slots.now.entries
