use Rattle.std.proofs.Common.{length}
use Rattle.std.specs.List.{AllByRecursion}
use Rattle.ante_fork.specs.Shown.{IsNamed}
use Rattle.ante_fork.proofs.Numbered.{IsSought}
use Rattle.ante_fork.proofs.walks.num_down.Given as goal

abbrev pub invariant-loop-node : goal.invariant-loop-node
invariant-loop-node l = IsSought l.num l.genesis.block.value l.id l.next l.nodes l.rest × AllByRecursion IsNamed l.rest

abbrev pub decreases-loop-node : goal.decreases-loop-node
decreases-loop-node l = length l.rest
