use Rattle.std.proofs.Common.{◌≡◌, ℕ, ◌<◌, false}
use Rattle.ante_http.specs.HeadEnds.{leading, ends_at}
use Rattle.ante_http.proofs.head.head_end.Given as goal

abbrev pub invariant-loop-at : goal.invariant-loop-at
invariant-loop-at l = (k : ℕ) → k < l.at → ends_at l.bytes (leading l.bytes) k ≡ false
