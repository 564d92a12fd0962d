use Rattle.ante_wvalues.proofs.Regions.{keep_view}
use Rattle.ante_wvalues.proofs.values.ValueStack.keep.Goals as goal

pub returns : goal.returns
returns c = keep_view c.self.inside.items.items c.self.inside.base c.self.inside.floor c.args.self.now c.self.view_is c.self.invariant.0 c.self.invariant.1 c.truncate.new.self.items c.args.height c.truncate.ensures.items c.requires
