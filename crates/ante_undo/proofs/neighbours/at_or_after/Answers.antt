use Rattle.std.proofs.Common.{ap, ◌∙◌}
use Rattle.ante_undo.specs.Entries.{first_entry}
use Rattle.ante_undo.specs.Slots.{live}
use Rattle.ante_undo.proofs.Sides.{entry_from_slots}
use Rattle.ante_undo.proofs.neighbours.at_or_after.Goals as goal

pub returns-clause-nearest : goal.returns-clause-nearest
returns-clause-nearest g c =
    c.first_live.ensures
    ∙ ap (λ slots. first_entry (live slots)) (c.range.ensures.between tt)
    ∙ entry_from_slots g.K.Ord.cmp g.met.K.Ord.total c.args.key.now c.args.slots.now.entries
