use Rattle.std.proofs.Common.{◌≡◌, length, IsTrue}
use Rattle.ante_links.specs.Links.{read_room}
use Rattle.ante_journal.specs.Desk.{taking}
use Rattle.ante_driver.specs.Shown.{IsPairedFront, Leads, desk_of}
use Rattle.ante_driver.proofs.serving.serve_links.Given as goal

abbrev pub invariant-loop-link : goal.invariant-loop-link
invariant-loop-link g l = record {
  room : length l.buffer ≡ read_room;
  paired : IsPairedFront l.front (g.L.Links.links l.links);
  leads : IsTrue g.L.Links.tells → Leads
      (desk_of (g.L.Links.to_come l.initial.links) (g.L.Links.links l.initial.links) l.initial.front taking) l.initial.front.journal.items
      (desk_of (g.L.Links.to_come l.links) (g.L.Links.links l.links) l.front taking) l.front.journal.items;
}
