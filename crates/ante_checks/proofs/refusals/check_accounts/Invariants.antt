use Rattle.std.proofs.Common.{◌≡◌, length}
use Rattle.ante_execution.specs.Refusals.{first_refusal}
use Rattle.ante_execution.specs.Transactions.{account_refusal}
use Rattle.ante_checks.proofs.refusals.check_accounts.Given as goal

abbrev pub invariant-each : goal.invariant-each
invariant-each l = first_refusal (account_refusal l.store.top) l.actions ≡ first_refusal (account_refusal l.store.top) l.rest

abbrev pub decreases-each : goal.decreases-each
decreases-each l = length l.rest
