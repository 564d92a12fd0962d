use Rattle.std.proofs.Common.{arith}
use Rattle.ante_control.proofs.Lengths.{string_length}
use Rattle.ante_control.proofs.sizes.string_size.Goals as goal

pub returns-clause-size : goal.returns-clause-size
returns-clause-size c = omega (arith, string_length c.args.text.now, c.count_size.ensures.size)
