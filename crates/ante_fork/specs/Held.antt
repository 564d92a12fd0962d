-- What the code's tree stands for.
use Rattle.ante_fork.specs.declared.tree.ForkTree.TheInside.{Inside}
use Rattle.ante_fork.specs.Tree.{Tree, IsTree}
use Rattle.ante_fork.specs.Shown.{newest, IsNamed}

abbrev pub tree_shown : Inside → Tree
tree_shown t = record { producers = t.producers; genesis = t.genesis.block.value; kept = newest t.kept; head = t.head; irreversible = t.irreversible }

pub record IsHeld (t : Inside) : Type 0 where
  pub genesis : IsNamed t.genesis
  pub tree : IsTree (tree_shown t)
