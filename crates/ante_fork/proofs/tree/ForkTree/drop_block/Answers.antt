use Rattle.std.proofs.Common.{ap, ◌∙◌, sym, subst}
use Rattle.ante_fork.specs.Tree.{IsTree, with_kept, pruned, other_than}
use Rattle.ante_fork.specs.Shown.{newest}
use Rattle.ante_fork.specs.Held.{tree_shown}
use Rattle.ante_fork.proofs.Pruned.{dropped_tree}
use Rattle.ante_fork.proofs.tree.ForkTree.drop_block.Goals as goal

pub invariant_of-self : goal.invariant_of-self
invariant_of-self c = record {
  genesis = c.self.invariant.genesis;
  tree =
      let shown =
      ap (λ k. with_kept k (tree_shown c.self.inside))
      (c.prune.ensures ∙ ap (λ g. pruned (other_than c.args.id.now) g (newest c.self.inside.kept)) c.self.invariant.genesis) in
      subst IsTree (sym shown) (dropped_tree (tree_shown c.self.inside) c.args.id.now c.self.invariant.tree (rw (← c.self.view_is) at c.requires));
}
