use Rattle.std.proofs.Common.{◌≡◌, ◌++◌, drop}
use Rattle.ante_window.specs.Schedule.{last_ended}
use Rattle.ante_window.proofs.schedule.put_last_ends.Given as goal

abbrev pub invariant-loop-at : goal.invariant-loop-at
invariant-loop-at l = l.events.items ++ last_ended (drop l.at l.turns) ≡ l.initial.events.items ++ last_ended l.turns
