use Rattle.std.proofs.Common.{◌≡◌, drop}
use Rattle.std.specs.BTreeMap.{IsOrdered}
use Rattle.ante_undo.specs.Slots.{live}
use Rattle.ante_undo.specs.Logs.{named_in_all, Releases}
use Rattle.ante_undo.proofs.logs.close.Given as goal

abbrev pub invariant-loop : goal.invariant-loop
invariant-loop g l = record {
  logs : l.logs ≡ drop l.counter l.fn.logs;
  map : live l.slots.entries ≡ live l.fn.slots.entries;
  released : Releases g.K.Ord.cmp l.fn.slots.entries l.slots.entries (λ q. named_in_all g.K.Ord.cmp q l.fn.logs) (λ q. named_in_all g.K.Ord.cmp q l.logs);
  ordered : IsOrdered g.K.Ord.cmp l.slots;
}
