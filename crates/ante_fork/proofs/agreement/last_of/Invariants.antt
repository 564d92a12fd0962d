use Rattle.std.proofs.Common.{◌≡◌, length}
use Rattle.std.specs.List.{AllByRecursion}
use Rattle.ante_fork.specs.Shown.{newest, IsNamed}
use Rattle.ante_fork.specs.Tree.{branch}
use Rattle.ante_fork.specs.Finality.{last_number}
use Rattle.ante_fork.proofs.agreement.last_of.Given as goal

abbrev pub invariant-loop-node : goal.invariant-loop-node
invariant-loop-node l = (last_number l.genesis.block.value (branch l.id (newest l.nodes)) l.producer ≡ last_number l.genesis.block.value (branch l.next (newest l.rest)) l.producer) × AllByRecursion IsNamed l.rest

abbrev pub decreases-loop-node : goal.decreases-loop-node
decreases-loop-node l = length l.rest
