use Rattle.std.proofs.Common.{length, ap, arith}
use Rattle.std.specs.List.{flat_map}
use Rattle.ante_pack.specs.Forms.{string, varuint}
use Rattle.ante_control.proofs.Lengths.{receipt_length, list_length}
use Rattle.ante_control.proofs.sizes.receipt_size.Goals as goal

pub returns-clause-size : goal.returns-clause-size
returns-clause-size c = λ steps. omega (
  arith,
  receipt_length steps c.args.packed.now c.args.signatures.now,
  list_length string.spell c.args.signatures.now,
  c.string_size.ensures.size,
  c.count_size.ensures.size,
  c.strings_size.ensures.size,
  ap (λ texts. length (varuint.spell (length texts))) c.as_slice-signatures.ensures,
  ap (λ texts. length (flat_map string.spell texts)) c.as_slice-signatures.ensures,
)
