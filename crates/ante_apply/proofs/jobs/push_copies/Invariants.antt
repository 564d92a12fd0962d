use Rattle.std.proofs.Common.{◌≡◌, ◌++◌, replicate}
use Rattle.ante_apply.proofs.jobs.push_copies.Given as goal

abbrev pub invariant-loop : goal.invariant-loop
invariant-loop g l = l.list ≡ l.fn.list ++ replicate l.counter l.fn.item
