use Rattle.std.proofs.Common.{◌≡◌, ◌+◌, ◌%◌, ◌^◌, length}
use Rattle.ante_digest.proofs.Walks.{left_from}
use Rattle.ante_digest.proofs.listed.count_of.Given as goal

abbrev pub invariant-loop-at : goal.invariant-loop-at
invariant-loop-at g l = (l.count + left_from g.L.Key.Ord.cmp (g.L.Listed.entries l.map) l.at) % 2 ^ 32 ≡ length (g.L.Listed.entries l.map) % 2 ^ 32

abbrev pub decreases-loop-at : goal.decreases-loop-at
decreases-loop-at g l = left_from g.L.Key.Ord.cmp (g.L.Listed.entries l.map) l.at
