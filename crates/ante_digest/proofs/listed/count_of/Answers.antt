use Rattle.std.proofs.Common.{None, T, sym, subst, ap, ◌∙◌, arith}
use Rattle.ante_digest.proofs.Walks.{left_from, left_fewer, left_next}
use Rattle.ante_digest.proofs.listed.count_of.Goals as goal

pub loop-at-init : goal.loop-at-init
loop-at-init g c =
    let m = g.L.Listed.entries c.args.map.now in
    let all = ap (left_from g.L.Key.Ord.cmp m) c.next_key-at.ensures.next ∙ left_next g.L.Key.Ord.cmp c.total_order.ensures None m (subst T (sym c.next_key-at.ensures.ordered) tt) in
    omega (arith, all)

pub loop-at-smaller : goal.loop-at-smaller
loop-at-smaller g c =
    let fewer = left_fewer g.L.Key.Ord.cmp c.total_order.ensures (g.L.Listed.entries c.args.map.now) c.loop-at.at c.next_key-at-in-loop-at.result (subst T (sym c.next_key-at-in-loop-at.ensures.ordered) tt) (sym c.is_some.ensures ∙ c.loop-at-test.true) c.next_key-at-in-loop-at.ensures.next in
    omega (arith, fewer)

pub loop-at-preserved : goal.loop-at-preserved
loop-at-preserved g c =
    let fewer = left_fewer g.L.Key.Ord.cmp c.total_order.ensures (g.L.Listed.entries c.args.map.now) c.loop-at.at c.next_key-at-in-loop-at.result (subst T (sym c.next_key-at-in-loop-at.ensures.ordered) tt) (sym c.is_some.ensures ∙ c.loop-at-test.true) c.next_key-at-in-loop-at.ensures.next in
    omega (arith, fewer, c.loop-at.invariant)
