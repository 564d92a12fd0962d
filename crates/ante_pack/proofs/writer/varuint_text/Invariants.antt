use Rattle.ante_pack.specs.Forms.{varuint_bytes}
use Rattle.ante_pack.proofs.VaruintWriting.{Writes}
use Rattle.ante_pack.proofs.writer.varuint_text.Given as goal

abbrev pub invariant-loop-left : goal.invariant-loop-left
invariant-loop-left l = Writes l.text l.len l.left (varuint_bytes 4 l.value)

abbrev pub decreases-loop-left : goal.decreases-loop-left
decreases-loop-left l = l.left
