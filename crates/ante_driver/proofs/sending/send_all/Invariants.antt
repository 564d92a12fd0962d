use Rattle.std.proofs.Common.{IsTrue}
use Rattle.ante_journal.specs.Desk.{sending}
use Rattle.ante_driver.specs.Shown.{IsCalm, IsPairedFront, Leads, desk_of}
use Rattle.ante_driver.proofs.sending.send_all.Given as goal

abbrev pub invariant-loop-write : goal.invariant-loop-write
invariant-loop-write g l = record {
  paired : IsPairedFront l.front (g.L.Links.links l.links);
  calm : IsCalm l.link l.front.slots.items l.front.queue.items;
  leads : IsTrue g.L.Links.tells → Leads
      (desk_of (g.L.Links.to_come l.initial.links) (g.L.Links.links l.initial.links) l.initial.front sending) l.initial.front.journal.items
      (desk_of (g.L.Links.to_come l.links) (g.L.Links.links l.links) l.front sending) l.front.journal.items;
}
