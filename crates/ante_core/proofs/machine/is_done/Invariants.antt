use Rattle.std.proofs.Common.{◌≡◌, drop}
use Rattle.ante_core.specs.Machine.{is_done}
use Rattle.ante_core.proofs.machine.is_done.Given as goal

-- whether the job is on the list is whether it is on the rest of it
abbrev pub invariant-loop-entry : goal.invariant-loop-entry
invariant-loop-entry g l = is_done l.done l.job ≡ is_done (drop l.entry-index l.done) l.job
