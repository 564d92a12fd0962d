use Rattle.std.proofs.Common.{arith}
use Rattle.ante_driver.proofs.Small.{bad_small}
use Rattle.ante_driver.proofs.Taken.{bad_went, bad_paired}
use Rattle.ante_driver.proofs.taking.take_bad.Goals as goal

pub overflow_cast-count : goal.overflow_cast-count
overflow_cast-count g c = omega (arith, bad_small c.requires.bad.slot.held.items c.args.kind c.args.count c.requires.bad.bad)

pub returns-clause-paired : goal.returns-clause-paired
returns-clause-paired g c = bad_paired (g.L.Links.links c.args.links.now) c.args.front.now c.answer_bad.new.front c.args.link c.args.count c.args.kind c.answer_bad.result c.requires.paired c.answer_bad.ensures.ok

pub returns-clause-went : goal.returns-clause-went
returns-clause-went g c =
    bad_went g.L.Links.tells (g.L.Links.to_come c.args.links.now) (g.L.Links.links c.args.links.now) c.args.front.now c.answer_bad.new.front c.args.link c.args.count c.args.kind c.answer_bad.result
    c.requires.paired c.requires.idle c.requires.bad c.answer_bad.ensures.ok c.answer_bad.ensures.err
