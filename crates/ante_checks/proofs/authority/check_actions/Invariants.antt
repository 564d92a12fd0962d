use Rattle.std.proofs.Common.{◌≡◌, None, length}
use Rattle.ante_execution.specs.Authorities.{check_action}
use Rattle.ante_execution.specs.Refusals.{first_refusal}
use Rattle.ante_checks.proofs.authority.check_actions.Given as goal

abbrev pub invariant-each : goal.invariant-each
invariant-each l = first_refusal (λ a. check_action l.store.top a l.keys None) l.actions ≡ first_refusal (λ a. check_action l.store.top a l.keys None) l.rest

abbrev pub decreases-each : goal.decreases-each
decreases-each l = length l.rest
