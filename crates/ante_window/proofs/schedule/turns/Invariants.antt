use Rattle.std.proofs.Common.{◌≡◌, ◌++◌, drop}
use Rattle.ante_window.specs.Schedule.{turns_from}
use Rattle.ante_window.proofs.schedule.turns.Given as goal

abbrev pub invariant-loop-at : goal.invariant-loop-at
invariant-loop-at g l = l.turns.items ++ turns_from l.at (drop l.at l.owners) (drop l.at l.outcomes) ≡ turns_from 0 l.owners l.outcomes
