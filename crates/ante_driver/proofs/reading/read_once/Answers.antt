use Rattle.std.proofs.Common.{ap}
use Rattle.ante_links.specs.LinkStates.{LinkState}
use Rattle.ante_journal.specs.Desk.{taking}
use Rattle.ante_driver.proofs.Paired.{same_paired}
use Rattle.ante_driver.proofs.Went.{fill_went, fill_paired, fill_idle, moved_none}
use Rattle.ante_driver.proofs.reading.read_once.Goals as goal

pub returns-in-Bytes-clause-paired : goal.returns-in-Bytes-clause-paired
returns-in-Bytes-clause-paired g c =
    fill_paired (g.L.Links.links c.args.links.now) (g.L.Links.links c.read.new.self) c.args.front.now c.hold_bytes.new.front c.args.link _ _ c.hold_bytes.result c.requires.paired c.in-Bytes.ensures.change c.hold_bytes.ensures.ok

pub returns-in-Bytes-clause-idle : goal.returns-in-Bytes-clause-idle
returns-in-Bytes-clause-idle g c = fill_idle c.args.front.now c.hold_bytes.new.front c.args.link _ c.hold_bytes.result c.requires.idle c.hold_bytes.ensures.ok

pub returns-in-Bytes-clause-went : goal.returns-in-Bytes-clause-went
returns-in-Bytes-clause-went g c =
    fill_went g.L.Links.tells (g.L.Links.to_come c.args.links.now) (g.L.Links.to_come c.read.new.self) (g.L.Links.links c.args.links.now) (g.L.Links.links c.read.new.self) c.args.front.now c.hold_bytes.new.front c.args.link c.in-Bytes.count c.read.new.into c.split_at.result.0.now c.hold_bytes.result
    c.requires.paired c.read.ensures.come c.in-Bytes.ensures.change c.split_at.ensures.front c.hold_bytes.ensures.ok c.hold_bytes.ensures.err

pub returns-in-NotReady-clause-paired : goal.returns-in-NotReady-clause-paired
returns-in-NotReady-clause-paired g c = same_paired c.args.front.now.slots.items c.args.front.now.queue.items (g.L.Links.links c.args.links.now) (g.L.Links.links c.read.new.self) c.args.link _ c.requires.paired c.in-NotReady.ensures.change

pub returns-in-NotReady-clause-went : goal.returns-in-NotReady-clause-went
returns-in-NotReady-clause-went g c =
    let d = c.in-NotReady.ensures.change in
    λ told. moved_none (g.L.Links.to_come c.args.links.now) (g.L.Links.to_come c.read.new.self) (g.L.Links.links c.args.links.now) (g.L.Links.links c.read.new.self) c.args.front.now taking c.args.link _ c.read.ensures.come d (ap (λ (x : LinkState). x.left) d.how.1) (ap (λ (x : LinkState). x.written) d.how.1)

pub returns-in-End-clause-paired : goal.returns-in-End-clause-paired
returns-in-End-clause-paired g c = same_paired c.args.front.now.slots.items c.args.front.now.queue.items (g.L.Links.links c.args.links.now) (g.L.Links.links c.read.new.self) c.args.link _ c.requires.paired c.in-End.ensures.change

pub returns-in-End-clause-went : goal.returns-in-End-clause-went
returns-in-End-clause-went g c =
    let d = c.in-End.ensures.change in
    λ told. moved_none (g.L.Links.to_come c.args.links.now) (g.L.Links.to_come c.read.new.self) (g.L.Links.links c.args.links.now) (g.L.Links.links c.read.new.self) c.args.front.now taking c.args.link _ c.read.ensures.come d (ap (λ (x : LinkState). x.left) d.how.0) (ap (λ (x : LinkState). x.written) d.how.0)

pub returns-in-Failed-clause-paired : goal.returns-in-Failed-clause-paired
returns-in-Failed-clause-paired g c = same_paired c.args.front.now.slots.items c.args.front.now.queue.items (g.L.Links.links c.args.links.now) (g.L.Links.links c.read.new.self) c.args.link _ c.requires.paired c.in-Failed.ensures.change

pub returns-in-Failed-clause-went : goal.returns-in-Failed-clause-went
returns-in-Failed-clause-went g c =
    let d = c.in-Failed.ensures.change in
    λ told. moved_none (g.L.Links.to_come c.args.links.now) (g.L.Links.to_come c.read.new.self) (g.L.Links.links c.args.links.now) (g.L.Links.links c.read.new.self) c.args.front.now taking c.args.link _ c.read.ensures.come d (ap (λ (x : LinkState). x.left) d.how.0) (ap (λ (x : LinkState). x.written) d.how.0)
