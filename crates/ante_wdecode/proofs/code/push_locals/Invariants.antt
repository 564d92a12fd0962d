use Rattle.std.proofs.Common.{◌≡◌, ◌++◌, replicate}
use Rattle.ante_wdecode.proofs.code.push_locals.Given as goal

abbrev pub invariant-loop : goal.invariant-loop
invariant-loop l = l.locals ≡ l.initial.locals ++ replicate l.counter l.kind
