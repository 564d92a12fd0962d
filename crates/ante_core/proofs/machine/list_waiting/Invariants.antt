use Rattle.std.proofs.Common.{◌≡◌}
use Rattle.ante_core.specs.Machine.{waiting_below}
use Rattle.ante_core.proofs.machine.list_waiting.Given as goal

abbrev pub invariant-loop-job : goal.invariant-loop-job
invariant-loop-job g l = l.listed.items ≡ waiting_below l.done l.job
