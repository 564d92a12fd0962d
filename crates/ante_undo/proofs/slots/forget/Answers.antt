use Rattle.std.proofs.Common.{rules}
use Rattle.ante_undo.specs.Slots.{value_at}
use Rattle.ante_undo.proofs.Live.{left_in, left_out}
use Rattle.ante_undo.proofs.slots.forget.Goals as goal

pub returns-else-leave-clause-slots : goal.returns-else-leave-clause-slots
returns-else-leave-clause-slots g c q =
    left_in g.K.Ord.cmp c.args.key c.args.slots.now.entries c.get_mut.result.now c.leave.new.self (value_at g.K.Ord.cmp c.args.key c.args.slots.now.entries) (search rules) (search rules) q _ (search rules)
    (search (rules, c.slots-else-leave-1.given.1, (c.in-Ok-Occupied.ensures.update.0 c.leave.new.self).0 q, c.get_mut.ensures.written c.leave.new.self))

pub returns-then-leave-clause-slots : goal.returns-then-leave-clause-slots
returns-then-leave-clause-slots g c q =
    left_out g.K.Ord.cmp c.args.key c.args.slots.now.entries c.get_mut.result.now c.leave.new.self (value_at g.K.Ord.cmp c.args.key c.args.slots.now.entries) (search rules) (search rules) q _ (search rules)
    (search (rules, c.slots-then-leave-1.given.1, c.in-Ok-Occupied.ensures.removal.0.0 q, c.get_mut.ensures.written c.leave.new.self))
