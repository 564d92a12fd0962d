use Rattle.std.proofs.Common.{length, ◌-◌, ◌≤◌}
use Rattle.ante_answers.specs.Answers.{scope_view, tables_from}
use Rattle.ante_answers.specs.Walks.{IsFront}
use Rattle.ante_answers.proofs.scopes.tables_answer.Given as goal

abbrev pub invariant-loop-next : goal.invariant-loop-next
invariant-loop-next l = IsFront scope_view (tables_from l.scopes.code l.scopes.table l.scopes.lower l.rows.top.tables) l.given l.next × (length l.given ≤ l.limit)

abbrev pub decreases-loop-next : goal.decreases-loop-next
decreases-loop-next l = l.limit - length l.given
