use Rattle.std.proofs.Common.{take}
use Rattle.ante_core.proofs.Places.{NoneHeldBy}
use Rattle.ante_core.proofs.window.place_of.Given as goal

abbrev pub invariant-loop-place : goal.invariant-loop-place
invariant-loop-place g l = NoneHeldBy l.reader (take l.place l.held)
