use Rattle.std.proofs.Common.{◌≡◌, length}
use Rattle.std.specs.List.{AllByRecursion}
use Rattle.ante_fork.specs.Shown.{newest, IsNamed}
use Rattle.ante_fork.specs.Tree.{find_block}
use Rattle.ante_fork.proofs.walks.find_in.Given as goal

abbrev pub invariant-loop-node : goal.invariant-loop-node
invariant-loop-node l = (find_block l.id (newest l.nodes) ≡ find_block l.id (newest l.rest)) × AllByRecursion IsNamed l.rest

abbrev pub decreases-loop-node : goal.decreases-loop-node
decreases-loop-node l = length l.rest
