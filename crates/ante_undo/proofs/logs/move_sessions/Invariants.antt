use Rattle.std.proofs.Common.{◌≡◌, ◌+◌, length}
use Rattle.std.specs.BTreeMap.{IsOrdered}
use Rattle.ante_undo.specs.Logs.{AreMoved}
use Rattle.ante_undo.proofs.logs.move_sessions.Given as goal

abbrev pub invariant-loop : goal.invariant-loop
invariant-loop g l = record {
  moved : AreMoved g.K.Ord.cmp l.fn.slots.entries l.fn.from l.fn.to l.slots.entries l.from l.to;
  ordered : IsOrdered g.K.Ord.cmp l.slots;
  left : length l.from + l.counter ≡ length l.fn.from;
}
