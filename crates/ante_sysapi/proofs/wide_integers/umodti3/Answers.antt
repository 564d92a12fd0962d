use Rattle.std.specs.Prelude.{◌%◌}
use Rattle.ante_sysapi.proofs.wide_integers.umodti3.Goals as goal

pub returns-in-Err : goal.returns-in-Err
returns-in-Err c = c.in-Err.ensures.refused (λ a b. a % b) c.args.memory.now
