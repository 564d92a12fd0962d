use Rattle.ante_authz.proofs.Climbing.{Climbed}
use Rattle.ante_authz.proofs.ancestors.is_or_is_above.Given as goal

abbrev pub invariant-ancestors : goal.invariant-ancestors
invariant-ancestors l = Climbed l.store.top l.level.actor l.level.permission l.fn.least l.mark l.name l.steps
