use Rattle.std.proofs.Common.{◌≡◌, length}
use Rattle.ante_execution.specs.Authorities.{level_refusal}
use Rattle.ante_execution.specs.Refusals.{first_refusal}
use Rattle.ante_authz.proofs.check.check_levels.Given as goal

abbrev pub invariant-levels : goal.invariant-levels
invariant-levels l =
    first_refusal (level_refusal l.store.top l.action l.keys l.code) l.rest
    ≡ first_refusal (level_refusal l.store.top l.action l.keys l.code) l.action.authorization

abbrev pub decreases-levels : goal.decreases-levels
decreases-levels l = length l.rest
