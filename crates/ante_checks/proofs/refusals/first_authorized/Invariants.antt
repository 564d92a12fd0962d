use Rattle.std.proofs.Common.{◌≡◌, ◌+◌, drop}
use Rattle.std.specs.List.{position_or_len}
use Rattle.ante_execution.specs.Transactions.{has_level}
use Rattle.ante_checks.proofs.refusals.first_authorized.Given as goal

abbrev pub invariant-loop-i : goal.invariant-loop-i
invariant-loop-i l = l.i + position_or_len has_level (drop l.i l.actions) ≡ position_or_len has_level l.actions
