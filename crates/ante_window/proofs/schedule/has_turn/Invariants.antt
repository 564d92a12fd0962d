use Rattle.std.proofs.Common.{◌≡◌, drop}
use Rattle.ante_window.specs.Schedule.{has_turn}
use Rattle.ante_window.proofs.schedule.has_turn.Given as goal

abbrev pub invariant-loop-turn : goal.invariant-loop-turn
invariant-loop-turn l = has_turn l.reader l.turns ≡ has_turn l.reader (drop l.turn-index l.turns)
