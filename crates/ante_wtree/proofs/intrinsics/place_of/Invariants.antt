use Rattle.std.proofs.Common.{◌≢◌, ℕ, ◌<◌, Some, map, slice_get}
use Rattle.ante_wtree.proofs.intrinsics.place_of.Given as goal

abbrev pub invariant-loop-at : goal.invariant-loop-at
invariant-loop-at l = (k : ℕ) → k < l.at → slice_get (map (λ r. r.0.now) l.rows) k ≢ Some l.name
