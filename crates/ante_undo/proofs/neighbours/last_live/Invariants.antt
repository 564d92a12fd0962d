use Rattle.std.proofs.Common.{◌≡◌, length}
use Rattle.ante_undo.specs.Entries.{last_entry}
use Rattle.ante_undo.specs.Slots.{live}
use Rattle.ante_undo.proofs.neighbours.last_live.Given as goal

abbrev pub invariant-loop-key : goal.invariant-loop-key
invariant-loop-key g l = last_entry (live l.slots) ≡ last_entry (live l.fn.slots)

abbrev pub decreases-loop-key : goal.decreases-loop-key
decreases-loop-key g l = length l.slots
