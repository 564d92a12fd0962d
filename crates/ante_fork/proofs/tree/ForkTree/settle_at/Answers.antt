use Rattle.std.proofs.Common.{ap, ◌∙◌, sym, subst}
use Rattle.ante_fork.specs.Tree.{IsTree, pruned}
use Rattle.ante_fork.specs.Finality.{always, opened}
use Rattle.ante_fork.specs.Shown.{newest}
use Rattle.ante_fork.specs.Held.{tree_shown}
use Rattle.ante_fork.proofs.Opening.{settled_kept, settled_tree, settled_with}
use Rattle.ante_fork.proofs.tree.ForkTree.settle_at.Goals as goal

pub invariant_of-self : goal.invariant_of-self
invariant_of-self c =
    let e =
    c.link.ensures ∙ ap (pruned always c.self.inside.genesis.id) c.keep_open-from.ensures.left
    ∙ ap (λ g. pruned always g (opened c.args.num c.self.inside.head (newest c.self.inside.kept))) c.self.invariant.genesis
    ∙ settled_kept c.args.num (tree_shown c.self.inside) c.self.invariant.tree in
    record {
      genesis = c.self.invariant.genesis;
      tree = subst IsTree (sym (ap (settled_with c.args.num (tree_shown c.self.inside)) e)) (settled_tree c.args.num (tree_shown c.self.inside) c.self.invariant.tree);
    }

pub returns : goal.returns
returns c =
    let e =
    c.link.ensures ∙ ap (pruned always c.self.inside.genesis.id) c.keep_open-from.ensures.left
    ∙ ap (λ g. pruned always g (opened c.args.num c.self.inside.head (newest c.self.inside.kept))) c.self.invariant.genesis
    ∙ settled_kept c.args.num (tree_shown c.self.inside) c.self.invariant.tree in
    rw (← c.self.view_is) (ap (settled_with c.args.num (tree_shown c.self.inside)) e)
