use Rattle.std.proofs.Common.{refl}
use Rattle.ante_journal.specs.Desk.{sending}
use Rattle.ante_driver.proofs.Went.{stay_leads, calm_in}
use Rattle.ante_driver.proofs.sending.send_calm.Goals as goal

pub send_link-requires-clause-calm : goal.send_link-requires-clause-calm
send_link-requires-clause-calm g c =
    calm_in c.args.front.now.slots.items c.as_slice-then-link-as_slice.result.now c.args.front.now.queue.items c.as_slice-then-link-as_slice-2.result.now c.args.link c.as_slice-then-link-as_slice.ensures.value c.as_slice-then-link-as_slice-2.ensures.value (c.is_calm.ensures c.if-is_calm.true)

pub returns-then-link-as_slice-clause-went : goal.returns-then-link-as_slice-clause-went
returns-then-link-as_slice-clause-went g c =
    λ told. stay_leads (g.L.Links.to_come c.args.links.now) (g.L.Links.to_come c.args.links.now) (g.L.Links.links c.args.links.now) (g.L.Links.links c.args.links.now) c.args.front.now sending refl refl

pub returns-clause-went : goal.returns-clause-went
returns-clause-went g c =
    λ told. stay_leads (g.L.Links.to_come c.args.links.now) (g.L.Links.to_come c.args.links.now) (g.L.Links.links c.args.links.now) (g.L.Links.links c.args.links.now) c.args.front.now sending refl refl
