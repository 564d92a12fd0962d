use Rattle.std.proofs.Common.{◌≡◌, List, length}
use Rattle.std.specs.FinMap.Entries.{find}
use Rattle.ante_undo.specs.Logs.{taken_back}
use Rattle.ante_undo.proofs.logs.replaced_at.Given as goal

abbrev pub invariant-loop-entry : goal.invariant-loop-entry
invariant-loop-entry g l = (m : List (g.row.K.Denot × g.row.V.Denot)) → find g.K.Ord.cmp l.key (taken_back g.K.Ord.cmp m l.fn.log) ≡ find g.K.Ord.cmp l.key (taken_back g.K.Ord.cmp m l.entries)

abbrev pub decreases-loop-entry : goal.decreases-loop-entry
decreases-loop-entry g l = length l.entries
