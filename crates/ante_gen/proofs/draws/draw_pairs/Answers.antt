use Rattle.std.proofs.Common.{arith}
use Rattle.ante_gen.proofs.Drawing.{pair_drawn}
use Rattle.ante_gen.proofs.draws.draw_pairs.Goals as goal

pub loop-preserved : goal.loop-preserved
loop-preserved c =
    let drawn = pair_drawn c.loop.counter c.args.state.now c.loop.pairs c.loop.state c.draw-key.new.state c.draw-amount.new.state
    c.loop.invariant.0 c.loop.invariant.1 c.draw-key.ensures.state c.draw-amount.ensures.state in
    (grind (arith, drawn.0, c.in_ok-push.ensures.ok, c.draw-key.ensures.number, c.draw-amount.ensures.number), drawn.1)
