use Rattle.std.proofs.Common.{ap, sym, subst}
use Rattle.ante_fork.specs.Tree.{IsTree, with_kept}
use Rattle.ante_fork.specs.Held.{tree_shown}
use Rattle.ante_fork.proofs.Added.{added}
use Rattle.ante_fork.proofs.tree.ForkTree.add.Goals as goal

pub invariant_of-self-2 : goal.invariant_of-self-2
invariant_of-self-2 c = record {
  genesis = c.self.invariant.genesis;
  tree =
      subst IsTree (sym (ap (λ k. with_kept k (tree_shown c.self.inside)) c.in_ok-push.ensures.ok))
      (added (tree_shown c.self.inside) c.args.block c.self.invariant.tree (rw (← c.self.view_is) at c.in_ok-test.ensures.answer) c.in_ok-test.ensures.small);
}

pub returns-clause-ok : goal.returns-clause-ok
returns-clause-ok c = rw (← c.self.view_is) (ap (λ k. with_kept k (tree_shown c.self.inside)) c.in_ok-push.ensures.ok)
