use Rattle.std.proofs.Common.{inl, inr}
use Rattle.ante_driver.proofs.Went.{accept_went, accept_paired, accept_last, no_link_leads}
use Rattle.ante_driver.proofs.accepting.admit.Goals as goal

pub returns-in-New-clause-paired : goal.returns-in-New-clause-paired
returns-in-New-clause-paired g c =
    accept_paired g.L.Links.tells (g.L.Links.to_come c.args.links.now) (g.L.Links.to_come c.accept.new.self) (g.L.Links.links c.args.links.now) (g.L.Links.links c.accept.new.self) c.args.front.now c.add_slot.new.front c.in-New._id c.add_slot.result c.requires c.in-New.ensures.link c.add_slot.ensures.ok

pub returns-in-New-clause-last : goal.returns-in-New-clause-last
returns-in-New-clause-last g c = accept_last (g.L.Links.links c.args.links.now) c.args.front.now c.add_slot.new.front c.add_slot.result c.requires c.add_slot.ensures.ok

pub returns-in-New-clause-went : goal.returns-in-New-clause-went
returns-in-New-clause-went g c =
    accept_went g.L.Links.tells (g.L.Links.to_come c.args.links.now) (g.L.Links.to_come c.accept.new.self) (g.L.Links.links c.args.links.now) (g.L.Links.links c.accept.new.self) c.args.front.now c.add_slot.new.front c.in-New._id c.add_slot.result c.requires c.in-New.ensures.link c.add_slot.ensures.ok c.add_slot.ensures.err

pub returns-in-NotReady-clause-went : goal.returns-in-NotReady-clause-went
returns-in-NotReady-clause-went g c = λ told.
    no_link_leads (g.L.Links.to_come c.args.links.now) (g.L.Links.to_come c.accept.new.self) (g.L.Links.links c.args.links.now) (g.L.Links.links c.accept.new.self) c.args.front.now (inl (c.in-NotReady.ensures.link.2 told)) c.in-NotReady.ensures.link.1

pub returns-in-Failed-clause-went : goal.returns-in-Failed-clause-went
returns-in-Failed-clause-went g c = λ told.
    no_link_leads (g.L.Links.to_come c.args.links.now) (g.L.Links.to_come c.accept.new.self) (g.L.Links.links c.args.links.now) (g.L.Links.links c.accept.new.self) c.args.front.now (inr c.in-Failed.ensures.link.1) c.in-Failed.ensures.link.0
