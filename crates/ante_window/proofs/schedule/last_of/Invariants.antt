use Rattle.std.proofs.Common.{◌≡◌, drop, None}
use Rattle.ante_window.specs.Schedule.{last_from}
use Rattle.ante_window.proofs.schedule.last_of.Given as goal

abbrev pub invariant-loop-turn : goal.invariant-loop-turn
invariant-loop-turn l = last_from l.last l.reader (drop l.turn-index l.turns) ≡ last_from None l.reader l.turns
