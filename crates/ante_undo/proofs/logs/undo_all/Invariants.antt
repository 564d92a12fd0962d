use Rattle.std.proofs.Common.{◌≡◌, length}
use Rattle.std.specs.BTreeMap.{IsOrdered}
use Rattle.ante_undo.specs.Slots.{live}
use Rattle.ante_undo.specs.Logs.{named_in_all, taken_back_all, Releases}
use Rattle.ante_undo.proofs.logs.undo_all.Given as goal

abbrev pub invariant-loop-log : goal.invariant-loop-log
invariant-loop-log g l = record {
  map : taken_back_all g.K.Ord.cmp (live l.slots.entries) l.logs ≡ taken_back_all g.K.Ord.cmp (live l.fn.slots.entries) l.fn.logs;
  released : Releases g.K.Ord.cmp l.fn.slots.entries l.slots.entries (λ q. named_in_all g.K.Ord.cmp q l.fn.logs) (λ q. named_in_all g.K.Ord.cmp q l.logs);
  ordered : IsOrdered g.K.Ord.cmp l.slots;
}

abbrev pub decreases-loop-log : goal.decreases-loop-log
decreases-loop-log g l = length l.logs
