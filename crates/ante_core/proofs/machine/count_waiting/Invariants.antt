use Rattle.std.proofs.Common.{◌≡◌, ◌≤◌, length}
use Rattle.ante_core.specs.Machine.{waiting_below}
use Rattle.ante_core.proofs.machine.count_waiting.Given as goal

abbrev pub invariant-loop-job : goal.invariant-loop-job
invariant-loop-job g l =
    record { count : l.waiting ≡ length (waiting_below l.done l.job); fits : l.waiting ≤ l.job }
