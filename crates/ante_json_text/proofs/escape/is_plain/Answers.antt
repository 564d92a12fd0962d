use Rattle.std.proofs.Common.{sym, ◌∙◌}
use Rattle.ante_json_text.proofs.Escapes.{plain_byte, plain_more}
use Rattle.ante_json_text.proofs.escape.is_plain.Goals as goal

pub loop-byte-preserved : goal.loop-byte-preserved
loop-byte-preserved c =
    let letter = sym c.letter_of.ensures ∙ c.if-letter_of-ne0.false in
    plain_more c.args.text.now c.loop-byte.byte-index c.loop-byte-test.true (plain_byte _ letter c.if-byte-lt32.false) c.loop-byte.invariant
