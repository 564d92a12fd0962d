use Rattle.std.proofs.Common.{◌≡◌}
use Rattle.ante_gen.specs.Workload.{after_draws, keys_from}
use Rattle.ante_gen.proofs.draws.draw_keys.Given as goal

abbrev pub invariant-loop : goal.invariant-loop
invariant-loop l = (l.keys ≡ keys_from l.counter l.fn.state) × (l.state ≡ after_draws l.counter l.fn.state)
