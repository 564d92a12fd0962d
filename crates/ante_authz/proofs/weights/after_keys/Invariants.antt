use Rattle.std.proofs.Common.{◌≡◌, ◌-◌, length, bytes_eq, if◌then◌else◌}
use Rattle.std.specs.List.{list_any, sum_by}
use Rattle.ante_authz.proofs.weights.after_keys.Given as goal

abbrev pub invariant-weights : goal.invariant-weights
invariant-weights l =
    l.wanted - sum_by (λ k. if list_any (bytes_eq k.key) l.keys then k.weight else 0) l.rest
    ≡ l.threshold - sum_by (λ k. if list_any (bytes_eq k.key) l.keys then k.weight else 0) l.weights

abbrev pub decreases-weights : goal.decreases-weights
decreases-weights l = length l.rest
