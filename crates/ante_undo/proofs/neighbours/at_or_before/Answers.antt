use Rattle.std.proofs.Common.{ap, ◌∙◌}
use Rattle.ante_undo.specs.Entries.{last_entry}
use Rattle.ante_undo.specs.Slots.{live}
use Rattle.ante_undo.proofs.Sides.{entry_up_to_slots}
use Rattle.ante_undo.proofs.neighbours.at_or_before.Goals as goal

pub returns-clause-nearest : goal.returns-clause-nearest
returns-clause-nearest g c =
    c.last_live.ensures
    ∙ ap (λ slots. last_entry (live slots)) (c.range.ensures.between tt)
    ∙ entry_up_to_slots g.K.Ord.cmp g.met.K.Ord.total c.args.key.now c.args.slots.now.entries
