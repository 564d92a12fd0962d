use Rattle.std.proofs.Common.{T, sym, subst, ◌∙◌, arith}
use Rattle.ante_digest.proofs.Walks.{left_fewer, part_next}
use Rattle.ante_digest.proofs.listed.feed_entries.Goals as goal

pub loop-at-smaller : goal.loop-at-smaller
loop-at-smaller g c =
    let fewer = left_fewer g.L.Key.Ord.cmp c.total_order.ensures (g.L.Listed.entries c.args.map.now) c.loop-at.at c.feed_next-at-in-loop-at.result (subst T (sym c.feed_next-at-in-loop-at.ensures.ordered) tt) (sym c.is_some.ensures ∙ c.loop-at-test.true) c.feed_next-at-in-loop-at.ensures.next in
    omega (arith, fewer)

pub loop-at-preserved : goal.loop-at-preserved
loop-at-preserved g c =
    part_next g.L.Key.Ord.cmp c.total_order.ensures g.L.Listed.packed c.args.hasher.now c.loop-at.hasher c.feed_next-at-in-loop-at.new.hasher (g.L.Listed.entries c.args.map.now) c.loop-at.at c.feed_next-at-in-loop-at.result
    (subst T (sym c.feed_next-at-in-loop-at.ensures.ordered) tt) (sym c.is_some.ensures ∙ c.loop-at-test.true) c.feed_next-at-in-loop-at.ensures.next c.feed_next-at-in-loop-at.ensures.fed c.loop-at.invariant
