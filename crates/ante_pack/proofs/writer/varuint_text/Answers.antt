use Rattle.std.proofs.Common.{◌∙◌}
use Rattle.ante_pack.specs.Forms.{varuint_bytes}
use Rattle.ante_pack.proofs.VaruintWriting.{writes_more, writes_last, spelled}
use Rattle.ante_pack.proofs.writer.varuint_text.Goals as goal

pub loop-left-preserved : goal.loop-left-preserved
loop-left-preserved c = writes_more c.loop-left.text c.loop-left.len c.loop-left.left (varuint_bytes 4 c.args.value) c.loop-left-test.true c.loop-left.invariant

pub returns-clause-text : goal.returns-clause-text
returns-clause-text c = writes_last c.loop-left.text c.loop-left.len c.loop-left.left (varuint_bytes 4 c.args.value) c.loop-left-test.false c.loop-left.invariant ∙ spelled c.args.value
