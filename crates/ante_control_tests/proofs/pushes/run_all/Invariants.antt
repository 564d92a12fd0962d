use Rattle.std.proofs.Common.{IsSome}
use Rattle.ante_control_tests.proofs.pushes.run_all.Given as goal

abbrev pub invariant-loop-packed : goal.invariant-loop-packed
invariant-loop-packed l = IsSome l.chain.pending
