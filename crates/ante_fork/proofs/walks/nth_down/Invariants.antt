use Rattle.std.proofs.Common.{◌≡◌, length}
use Rattle.std.specs.List.{AllByRecursion, slice_get}
use Rattle.ante_fork.specs.Shown.{newest, IsNamed}
use Rattle.ante_fork.specs.Tree.{branch}
use Rattle.ante_fork.proofs.walks.nth_down.Given as goal

abbrev pub invariant-loop-node : goal.invariant-loop-node
invariant-loop-node l = (slice_get (branch l.id (newest l.nodes)) l.n ≡ slice_get (branch l.next (newest l.rest)) l.left) × AllByRecursion IsNamed l.rest

abbrev pub decreases-loop-node : goal.decreases-loop-node
decreases-loop-node l = length l.rest
