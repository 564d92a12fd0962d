use Rattle.ante_driver.proofs.Went.{close_went, close_paired}
use Rattle.ante_driver.proofs.closing.close.Goals as goal

pub returns-clause-paired : goal.returns-clause-paired
returns-clause-paired g c =
    close_paired (g.L.Links.links c.args.links.now) (g.L.Links.links c.close.new.self) c.args.front.now c.shut_slot.new.front c.args.link c.shut_slot.result c.requires.paired c.close.ensures.links c.shut_slot.ensures.ok

pub returns-clause-went : goal.returns-clause-went
returns-clause-went g c = λ stage after may.
    close_went g.L.Links.tells (g.L.Links.to_come c.args.links.now) (g.L.Links.to_come c.close.new.self) (g.L.Links.links c.args.links.now) (g.L.Links.links c.close.new.self) c.args.front.now c.shut_slot.new.front c.args.link stage after c.shut_slot.result
    c.requires.paired c.requires.calm may c.close.ensures.come c.close.ensures.links c.shut_slot.ensures.ok c.shut_slot.ensures.err
