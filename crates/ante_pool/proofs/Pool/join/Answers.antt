use Rattle.std.proofs.Common.{rules}
use Rattle.ante_pool.proofs.Moves.{may_join}
use Rattle.ante_pool.proofs.Pool.join.Goals as goal

pub join_seat-requires : goal.join_seat-requires
join_seat-requires c = (search rules, search rules, search rules, search rules, may_join _ _ _ _ _ c.into.invariant.1)
