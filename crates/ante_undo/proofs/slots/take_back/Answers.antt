use Rattle.std.proofs.Common.{rules}
use Rattle.ante_undo.proofs.Live.{left_in, left_out}
use Rattle.ante_undo.proofs.slots.take_back.Goals as goal

pub returns-else-leave-clause-slots : goal.returns-else-leave-clause-slots
returns-else-leave-clause-slots g c q =
    left_in g.K.Ord.cmp c.args.change.0 c.args.slots.now.entries c.get_mut-slot.result.now c.leave.new.self c.args.change.1 (search rules) (search rules) q _ (search rules)
    (search (rules, c.slots-else-leave-1.given.1, (c.in-Ok-Occupied.ensures.update.0 c.leave.new.self).0 q, c.get_mut-slot.ensures.written c.leave.new.self))

pub returns-then-leave-clause-slots : goal.returns-then-leave-clause-slots
returns-then-leave-clause-slots g c q =
    left_out g.K.Ord.cmp c.args.change.0 c.args.slots.now.entries c.get_mut-slot.result.now c.leave.new.self c.args.change.1 (search rules) (search rules) q _ (search rules)
    (search (rules, c.slots-then-leave-1.given.1, c.in-Ok-Occupied.ensures.removal.0.0 q, c.get_mut-slot.ensures.written c.leave.new.self))
