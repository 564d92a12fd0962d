use Rattle.std.proofs.Common.{◌≡◌, ◌++◌, false}
use Rattle.ante_pool.specs.Pools.{IsSeatOf}
use Rattle.ante_pool.proofs.tests.drain.Given as goal

abbrev pub invariant-loop : goal.invariant-loop
invariant-loop l = IsSeatOf l.pool l.seat × (l.seat.known.ended ≡ false) × (l.seat.known.share ≡ l.fn.seat.known.share) × (l.seat.known.numbers ≡ l.fn.seat.known.numbers ++ l.jobs.items)
