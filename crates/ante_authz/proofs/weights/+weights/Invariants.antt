use Rattle.std.proofs.Common.{◌≡◌, ◌+◌, ◌*◌, length}
use Rattle.ante_execution.specs.Authorities.{add_levels, satisfied_within}
use Rattle.ante_authz.proofs.weights.+weights.Given as goal

abbrev pub decreases-satisfied_within : goal.decreases-satisfied_within
decreases-satisfied_within l = 2 * l.levels

abbrev pub decreases-add_levels : goal.decreases-add_levels
decreases-add_levels l = 2 * l.levels + 1

abbrev pub invariant-add_levels-accounts : goal.invariant-add_levels-accounts
invariant-add_levels-accounts l =
    add_levels (satisfied_within l.store.top l.keys l.code l.levels) l.wanted 0 l.rest l.visits
    ≡ add_levels (satisfied_within l.store.top l.keys l.code l.levels) l.threshold 0 l.accounts l.initial.visits

abbrev pub decreases-add_levels-accounts : goal.decreases-add_levels-accounts
decreases-add_levels-accounts l = length l.rest
