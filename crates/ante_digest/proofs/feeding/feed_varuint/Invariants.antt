use Rattle.ante_digest.proofs.Spelling.{IsSpelling}
use Rattle.ante_digest.proofs.feeding.feed_varuint.Given as goal

abbrev pub invariant-loop-left : goal.invariant-loop-left
invariant-loop-left l = IsSpelling l.fn.hasher l.hasher l.left l.value

abbrev pub decreases-loop-left : goal.decreases-loop-left
decreases-loop-left l = l.left
