use Rattle.std.proofs.Common.{◌≡◌, length}
use Rattle.ante_undo.specs.Entries.{first_entry}
use Rattle.ante_undo.specs.Slots.{live}
use Rattle.ante_undo.proofs.neighbours.first_live.Given as goal

abbrev pub invariant-loop-key : goal.invariant-loop-key
invariant-loop-key g l = first_entry (live l.slots) ≡ first_entry (live l.fn.slots)

abbrev pub decreases-loop-key : goal.decreases-loop-key
decreases-loop-key g l = length l.slots
