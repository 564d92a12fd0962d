use Rattle.std.proofs.Common.{◌≡◌, ◌+◌, ◌*◌, length}
use Rattle.ante_wtree.specs.Expressions.{expression_of}
use Rattle.ante_wvalid.specs.OperandStacks.{context_in}
use Rattle.ante_wvalid.proofs.Nodes.{nodes, size_of}
use Rattle.ante_wvalid.proofs.Passing.{SoFar}
use Rattle.ante_wvalid.proofs.bodies.+bodies.Given as goal

abbrev pub decreases-sequence : goal.decreases-sequence
decreases-sequence l = 4 * nodes (expression_of l.body.now) + 1

abbrev pub decreases-inner : goal.decreases-inner
decreases-inner l = 4 * nodes (expression_of l.body.now) + 2

abbrev pub decreases-block : goal.decreases-block
decreases-block l = 4 * nodes (expression_of l.body.now) + 3

abbrev pub decreases-choice : goal.decreases-choice
decreases-choice l = 4 * (nodes (expression_of l.one.now) + nodes (expression_of l.two.now)) + 3

abbrev pub decreases-step : goal.decreases-step
decreases-step l = 4 * size_of l.shape

abbrev pub invariant-sequence-instrs : goal.invariant-sequence-instrs
invariant-sequence-instrs l = SoFar (context_in l.scope l.fn.labels) l.fn.body l.rest l.operands × (l.labels ≡ l.fn.labels)

abbrev pub decreases-sequence-instrs : goal.decreases-sequence-instrs
decreases-sequence-instrs l = length l.rest
