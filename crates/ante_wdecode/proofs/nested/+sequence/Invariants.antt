use Rattle.std.proofs.Common.{◌+◌, ◌*◌, length}
use Rattle.ante_wdecode.proofs.Sequences.{SoFar}
use Rattle.ante_wdecode.proofs.nested.+sequence.Given as goal

abbrev pub decreases-sequence : goal.decreases-sequence
decreases-sequence l = 4 * l.depth + 2

abbrev pub decreases-body : goal.decreases-body
decreases-body l = 4 * l.depth + 3

abbrev pub decreases-block : goal.decreases-block
decreases-block l = 4 * l.depth

abbrev pub decreases-choice : goal.decreases-choice
decreases-choice l = 4 * l.depth

abbrev pub decreases-next_part : goal.decreases-next_part
decreases-next_part l = 4 * l.depth + 1

abbrev pub invariant-sequence-items : goal.invariant-sequence-items
invariant-sequence-items l = SoFar l.depth l.fn.bytes l.front.items l.rest

abbrev pub decreases-sequence-items : goal.decreases-sequence-items
decreases-sequence-items l = length l.rest
