use Rattle.ante_fork.proofs.Opening.{IsOpening}
use Rattle.ante_fork.proofs.settling.keep_open.Given as goal

abbrev pub invariant-loop-at : goal.invariant-loop-at
invariant-loop-at l = IsOpening l.num l.genesis l.head l.fn.nodes l.nodes l.next l.at

abbrev pub decreases-loop-at : goal.decreases-loop-at
decreases-loop-at l = l.at
