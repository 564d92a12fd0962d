use Rattle.std.specs.Prelude.{int_div}
use Rattle.ante_calls.specs.WideIntegers.{signed, unsigned}
use Rattle.ante_sysapi.proofs.wide_integers.divti3.Goals as goal

pub returns-in-Err : goal.returns-in-Err
returns-in-Err c = c.in-Err.ensures.refused (λ a b. unsigned (int_div (signed a) (signed b))) c.args.memory.now
