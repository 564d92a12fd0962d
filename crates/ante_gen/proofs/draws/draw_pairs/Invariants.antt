use Rattle.std.proofs.Common.{◌≡◌, ◌*◌}
use Rattle.ante_gen.specs.Workload.{after_draws, pairs_from}
use Rattle.ante_gen.proofs.draws.draw_pairs.Given as goal

abbrev pub invariant-loop : goal.invariant-loop
invariant-loop l = (l.pairs ≡ pairs_from l.counter l.fn.state) × (l.state ≡ after_draws (2 * l.counter) l.fn.state)
