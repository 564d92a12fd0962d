use Rattle.std.proofs.Common.{arith}
use Rattle.ante_window.proofs.Halving.{two_parts}
use Rattle.ante_window.proofs.Joining.{brings_as}
use Rattle.ante_window.proofs.readers.+fn-read_all-join+arg3+read_all.Goals as goal

pub split-requires-clause-share : goal.split-requires-clause-share
split-requires-clause-share g t c =
    let one = c.requires.readers in let more = c.if-readers-eq1.false in two_parts c.args.readers _ (omega arith) c.requires.share

pub returns-clause-brought : goal.returns-clause-brought
returns-clause-brought g t c = let one = c.requires.readers in let more = c.if-readers-eq1.false in brings_as _ _ _ _ _ _ (omega arith) _ c.together.ensures.brought
