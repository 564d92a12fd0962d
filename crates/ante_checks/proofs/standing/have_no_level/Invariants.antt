use Rattle.std.proofs.Common.{◌≡◌, length}
use Rattle.std.specs.List.{list_all}
use Rattle.ante_execution.specs.Transactions.{has_no_level}
use Rattle.ante_checks.proofs.standing.have_no_level.Given as goal

abbrev pub invariant-each : goal.invariant-each
invariant-each l = list_all has_no_level l.actions ≡ list_all has_no_level l.rest

abbrev pub decreases-each : goal.decreases-each
decreases-each l = length l.rest
