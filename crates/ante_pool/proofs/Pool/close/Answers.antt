use Rattle.std.proofs.Common.{ap, ◌∙◌, arith}
use Rattle.ante_pool.specs.Pools.{PoolView, SeatView}
use Rattle.ante_pool.proofs.Moves.{ends_silent, ends_rung}
use Rattle.ante_pool.proofs.Pool.close.Goals as goal

pub returns-then-bell-eq0 : goal.returns-then-bell-eq0
returns-then-bell-eq0 c = ends_silent _ _ _ _ _ _ _ c.close_with-closed.ensures.values.2 c.word-drawn.ensures c.word-bell.ensures _
    (c.self.invariant.2 ∙ ap (λ (p : PoolView). p.jobs) c.self.view_is) _ (ap (λ (s : SeatView). s.known) c.seat.view_is) c.requires.share c.if-bell-eq0.true

pub returns-else-bell-eq0 : goal.returns-else-bell-eq0
returns-else-bell-eq0 c =
    let rung = c.if-bell-eq0.false in
    ends_rung _ _ _ _ _ _ _ c.close_with-closed.ensures.values.2 c.word-drawn.ensures c.word-bell.ensures _
    (c.self.invariant.2 ∙ ap (λ (p : PoolView). p.jobs) c.self.view_is) _ (ap (λ (s : SeatView). s.known) c.seat.view_is) c.requires.share (omega arith)
