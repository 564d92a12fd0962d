use Rattle.std.proofs.Common.{rules, ◌∙◌}
use Rattle.ante_undo.proofs.Live.{first_named}
use Rattle.ante_undo.proofs.slots.enter.Goals as goal

pub returns-in-Ok-clause-slots : goal.returns-in-Ok-clause-slots
returns-in-Ok-clause-slots g c q =
    first_named g.K.Ord.cmp c.args.slots.now.entries c.insert.new.self.entries c.args.change.now.0 c.args.change.now.1 q (search rules) (c.in-Ok.ensures.updates.0 q ∙ search rules)
