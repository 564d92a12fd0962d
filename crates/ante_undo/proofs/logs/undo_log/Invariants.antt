use Rattle.std.proofs.Common.{◌≡◌, length}
use Rattle.std.specs.BTreeMap.{IsOrdered}
use Rattle.ante_undo.specs.Slots.{live}
use Rattle.ante_undo.specs.Logs.{named_in, taken_back, Releases}
use Rattle.ante_undo.proofs.logs.undo_log.Given as goal

abbrev pub invariant-loop-change : goal.invariant-loop-change
invariant-loop-change g l = record {
  map : taken_back g.K.Ord.cmp (live l.slots.entries) l.log ≡ taken_back g.K.Ord.cmp (live l.fn.slots.entries) l.fn.log;
  released : Releases g.K.Ord.cmp l.fn.slots.entries l.slots.entries (λ q. named_in g.K.Ord.cmp q l.fn.log) (λ q. named_in g.K.Ord.cmp q l.log);
  ordered : IsOrdered g.K.Ord.cmp l.slots;
}

abbrev pub decreases-loop-change : goal.decreases-loop-change
decreases-loop-change g l = length l.log
