use Rattle.std.specs.List.{flat_map}
use Rattle.ante_digest.proofs.Walks.{left_from, rest_from, IsPart}
use Rattle.ante_digest.proofs.listed.feed_entries.Given as goal

abbrev pub invariant-loop-at : goal.invariant-loop-at
invariant-loop-at g l =
    IsPart l.fn.hasher l.hasher (flat_map g.L.Listed.packed (rest_from g.L.Key.Ord.cmp (g.L.Listed.entries l.map) l.at)) (flat_map g.L.Listed.packed (g.L.Listed.entries l.map))

abbrev pub decreases-loop-at : goal.decreases-loop-at
decreases-loop-at g l = left_from g.L.Key.Ord.cmp (g.L.Listed.entries l.map) l.at
