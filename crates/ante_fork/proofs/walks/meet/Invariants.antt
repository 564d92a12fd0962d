use Rattle.std.proofs.Common.{◌≡◌, length}
use Rattle.std.specs.List.{AllByRecursion}
use Rattle.ante_fork.specs.Shown.{newest, IsNamed}
use Rattle.ante_fork.specs.Tree.{meeting, tip}
use Rattle.ante_fork.proofs.walks.meet.Given as goal

abbrev pub invariant-loop-node : goal.invariant-loop-node
invariant-loop-node l = (tip l.genesis.block.value (meeting l.first l.second (newest l.nodes)) ≡ tip l.genesis.block.value (meeting l.a l.b (newest l.rest))) × AllByRecursion IsNamed l.rest

abbrev pub decreases-loop-node : goal.decreases-loop-node
decreases-loop-node l = length l.rest
