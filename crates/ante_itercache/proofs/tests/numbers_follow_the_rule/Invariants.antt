use Rattle.std.proofs.Common.{◌≤◌, length}
use Rattle.ante_itercache.proofs.tests.numbers_follow_the_rule.Given as goal

abbrev pub invariant-loop-at : goal.invariant-loop-at
invariant-loop-at g l = (length l.iters.tables ≤ l.at) × (length l.iters.rows ≤ l.at)
