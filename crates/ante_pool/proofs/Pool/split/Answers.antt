use Rattle.std.proofs.Common.{rules, ◌≤◌, subst, sym}
use Rattle.ante_pool.proofs.Moves.{may_split}
use Rattle.ante_pool.proofs.Pool.split.Goals as goal

pub split_seat-requires : goal.split_seat-requires
split_seat-requires c = (search rules, search rules, may_split _ _ _ (subst (λ v. 2 ≤ v.known.share) (sym c.seat.view_is) c.requires.share))
