use Rattle.std.proofs.Common.{IsSome}
use Rattle.ante_control_tests.proofs.pushes.fill.Given as goal

abbrev pub invariant-loop-count : goal.invariant-loop-count
invariant-loop-count l = IsSome l.chain.pending
