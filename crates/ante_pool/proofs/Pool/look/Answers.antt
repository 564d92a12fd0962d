use Rattle.std.proofs.Common.{rules}
use Rattle.ante_pool.proofs.Moves.{may_look}
use Rattle.ante_pool.proofs.Pool.look.Goals as goal

pub load-found-requires : goal.load-found-requires
load-found-requires c = (search rules, search rules, may_look _ _ _ _ c.seat.invariant.1)
