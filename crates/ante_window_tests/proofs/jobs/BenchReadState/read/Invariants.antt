use Rattle.std.proofs.Common.{ℕ, List, Option}
use Rattle.ante_base.specs.Stops.{Looks}
use Rattle.ante_window_tests.proofs.jobs.BenchReadState.read.Given as goal

abbrev pub invariant-loop-step : goal.invariant-loop-step
invariant-loop-step g l = (answers : List (Option ℕ)) × Looks g.P.Stop.may l.fn.stop answers l.stop
