use Rattle.std.proofs.Common.{◌<◌, length, sym, subst}
use Rattle.ante_fork.proofs.Finding.{found_out}
use Rattle.ante_fork.proofs.kept.KeptBlocks.take_out.Goals as goal

pub invariant_of-self : goal.invariant_of-self
invariant_of-self c =
    found_out c.self.inside.by_id c.remove.new.self c.remove-node.result c.self.inside.nodes.items c.remove-node.new.self.items c.args.at c.self.invariant
    (subst (λ ns. c.args.at < length ns) (sym c.self.view_is) c.requires) c.remove-node.ensures.value c.remove-node.ensures.by_index.2 c.remove.ensures.updates.0
