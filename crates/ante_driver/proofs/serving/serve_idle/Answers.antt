use Rattle.std.proofs.Common.{refl}
use Rattle.ante_journal.specs.Desk.{taking}
use Rattle.ante_driver.proofs.Went.{stay_leads, idle_in}
use Rattle.ante_driver.proofs.serving.serve_idle.Goals as goal

pub serve_link-requires-clause-idle : goal.serve_link-requires-clause-idle
serve_link-requires-clause-idle g c =
    idle_in c.args.front.now.slots.items c.as_slice-then-link-as_slice.result.now c.args.front.now.queue.items c.as_slice-then-link-as_slice-2.result.now c.args.link c.as_slice-then-link-as_slice.ensures.value c.as_slice-then-link-as_slice-2.ensures.value (c.is_idle.ensures c.if-is_idle.true)

pub returns-then-link-as_slice-clause-went : goal.returns-then-link-as_slice-clause-went
returns-then-link-as_slice-clause-went g c =
    λ told. stay_leads (g.L.Links.to_come c.args.links.now) (g.L.Links.to_come c.args.links.now) (g.L.Links.links c.args.links.now) (g.L.Links.links c.args.links.now) c.args.front.now taking refl refl

pub returns-clause-went : goal.returns-clause-went
returns-clause-went g c =
    λ told. stay_leads (g.L.Links.to_come c.args.links.now) (g.L.Links.to_come c.args.links.now) (g.L.Links.links c.args.links.now) (g.L.Links.links c.args.links.now) c.args.front.now taking refl refl
