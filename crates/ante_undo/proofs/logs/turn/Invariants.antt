use Rattle.std.proofs.Common.{◌≡◌, ◌+◌, [], length}
use Rattle.std.specs.BTreeMap.{IsOrdered}
use Rattle.ante_undo.specs.Logs.{IsMoved}
use Rattle.ante_undo.proofs.logs.turn.Given as goal

abbrev pub invariant-loop : goal.invariant-loop
invariant-loop g l = record {
  moved : IsMoved g.K.Ord.cmp l.fn.slots.entries l.fn.log [] l.slots.entries l.log l.turned;
  ordered : IsOrdered g.K.Ord.cmp l.slots;
  left : length l.log + l.counter ≡ length l.fn.log;
}
