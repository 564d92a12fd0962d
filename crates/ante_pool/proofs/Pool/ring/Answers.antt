use Rattle.std.proofs.Common.{rules}
use Rattle.ante_pool.proofs.Moves.{may_ring}
use Rattle.ante_pool.proofs.Pool.ring.Goals as goal

pub compare_exchange-found-requires : goal.compare_exchange-found-requires
compare_exchange-found-requires c = (search rules, search rules, may_ring _ _ _ c.args.moment _ c.seat.invariant.1)
