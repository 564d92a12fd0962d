use Rattle.std.proofs.Common.{◌≡◌, ◌+◌, ◌≤◌, drop}
use Rattle.ante_http.specs.HeadEnds.{leading}
use Rattle.ante_http.proofs.head.leading.Given as goal

abbrev pub invariant-loop-b : goal.invariant-loop-b
invariant-loop-b l = (leading l.bytes ≡ leading (drop l.b-index l.bytes) + l.count) × (l.count ≤ l.b-index)
