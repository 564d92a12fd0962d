use Rattle.std.proofs.Common.{sym, ap}
use Rattle.ante_wmem.specs.HostCalls.{nothing}
use Rattle.ante_sysapi.proofs.console.print.Goals as goal

pub returns-in-Ok-clause-answer : goal.returns-in-Ok-clause-answer
returns-in-Ok-clause-answer c = λ m left w.
    ap (λ b. record { reply = nothing (record { world = w; run = record c.args.run.now { console = b } }) m; left = left }) (sym c.in-Ok.ensures.ok)

pub returns-in-Err-clause-answer : goal.returns-in-Err-clause-answer
returns-in-Err-clause-answer c = λ m left w.
    ap (λ b. (b, c.args.run.now.return_value)) c.in-Err.ensures.err
