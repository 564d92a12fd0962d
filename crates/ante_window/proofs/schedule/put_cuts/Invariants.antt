use Rattle.std.proofs.Common.{◌≡◌, ◌++◌, take}
use Rattle.std.specs.List.{flat_map}
use Rattle.ante_window.specs.Schedule.{cut}
use Rattle.ante_window.proofs.schedule.put_cuts.Given as goal

abbrev pub invariant-loop-turn : goal.invariant-loop-turn
invariant-loop-turn l = l.events.items ≡ l.initial.events.items ++ flat_map cut (take l.turn-index l.turns)
