use Rattle.std.proofs.Common.{length}
use Rattle.ante_fork.specs.Shown.{newest}
use Rattle.ante_fork.specs.Tree.{branch}
use Rattle.ante_fork.specs.Finality.{last_number}
use Rattle.ante_fork.proofs.Ranking.{IsRanked}
use Rattle.ante_fork.proofs.agreement.agreed_on.Given as goal

abbrev pub invariant-loop-producer : goal.invariant-loop-producer
invariant-loop-producer l = IsRanked (last_number l.genesis.block.value (branch l.head (newest l.nodes))) l.producers l.rest l.sorted.items

abbrev pub decreases-loop-producer : goal.decreases-loop-producer
decreases-loop-producer l = length l.rest
