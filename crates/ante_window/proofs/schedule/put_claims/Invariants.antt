use Rattle.std.proofs.Common.{◌≡◌, ◌++◌, [], take, drop}
use Rattle.ante_window.specs.Schedule.{claims}
use Rattle.ante_window.proofs.schedule.put_claims.Given as goal

abbrev pub invariant-loop-at : goal.invariant-loop-at
invariant-loop-at l = l.events.items ++ claims (take l.at l.turns) (drop l.at l.turns) ≡ l.initial.events.items ++ claims [] l.turns
