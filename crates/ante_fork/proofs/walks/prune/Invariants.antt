use Rattle.std.proofs.Common.{◌-◌, length}
use Rattle.ante_fork.specs.Tree.{other_than}
use Rattle.ante_fork.proofs.Pruned.{IsSifted}
use Rattle.ante_fork.proofs.walks.prune.Given as goal

abbrev pub invariant-loop-at : goal.invariant-loop-at
invariant-loop-at l = IsSifted (other_than l.id) l.genesis l.fn.nodes l.nodes l.at

abbrev pub decreases-loop-at : goal.decreases-loop-at
decreases-loop-at l = length l.nodes - l.at
