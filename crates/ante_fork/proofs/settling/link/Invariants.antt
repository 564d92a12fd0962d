use Rattle.std.proofs.Common.{◌-◌, length}
use Rattle.ante_fork.specs.Finality.{always}
use Rattle.ante_fork.proofs.Pruned.{IsSifted}
use Rattle.ante_fork.proofs.settling.link.Given as goal

abbrev pub invariant-loop-at : goal.invariant-loop-at
invariant-loop-at l = IsSifted always l.genesis l.fn.nodes l.nodes l.at

abbrev pub decreases-loop-at : goal.decreases-loop-at
decreases-loop-at l = length l.nodes - l.at
