use Rattle.std.proofs.Common.{length}
use Rattle.ante_fork.proofs.Best.{IsBetter}
use Rattle.ante_fork.proofs.walks.best_in.Given as goal

abbrev pub invariant-loop-node : goal.invariant-loop-node
invariant-loop-node l = IsBetter l.genesis l.head l.nodes l.rest l.best

abbrev pub decreases-loop-node : goal.decreases-loop-node
decreases-loop-node l = length l.rest
