use Rattle.std.proofs.Common.{rules, ap, ◌∙◌}
use Rattle.ante_pool.proofs.Moves.{may_draw}
use Rattle.ante_pool.proofs.Pool.claim.Goals as goal

pub fetch_add-found-requires : goal.fetch_add-found-requires
fetch_add-found-requires c = (search rules, search rules, may_draw _ _ _ _ c.seat.invariant.1 (ap (λ v. v.known.ended) c.seat.view_is ∙ c.requires.going))
