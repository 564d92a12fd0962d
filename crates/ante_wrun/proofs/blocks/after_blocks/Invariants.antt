use Rattle.std.proofs.Common.{ℕ, length}
use Rattle.ante_wrun.specs.ThreadStates.{Nested}
use Rattle.ante_wrun.specs.Stretches.{SameFrom}
use Rattle.ante_wrun.proofs.blocks.after_blocks.Given as goal

abbrev pub invariant-ended : goal.invariant-ended
invariant-ended g l = SameFrom g.H.Host.meaning l.fn.frames l.fn.code l.frames l.rest × ((below : ℕ) → Nested below l.fn.frames → Nested below l.frames)

abbrev pub decreases-ended : goal.decreases-ended
decreases-ended g l = length l.frames
