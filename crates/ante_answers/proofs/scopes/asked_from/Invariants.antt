use Rattle.std.proofs.Common.{◌≡◌, length}
use Rattle.ante_undo.specs.Entries.{first_where}
use Rattle.ante_state.specs.Orders.{table_order}
use Rattle.ante_answers.specs.Answers.{is_asked}
use Rattle.ante_answers.specs.Walks.{rest_from}
use Rattle.ante_answers.proofs.scopes.asked_from.Given as goal

abbrev pub invariant-loop-next : goal.invariant-loop-next
invariant-loop-next l =
    first_where (is_asked l.scopes.code l.scopes.table l.scopes.lower) (rest_from table_order l.next l.rows.top.tables)
    ≡ first_where (is_asked l.scopes.code l.scopes.table l.scopes.lower) (rest_from table_order l.fn.first l.rows.top.tables)

abbrev pub decreases-loop-next : goal.decreases-loop-next
decreases-loop-next l = length (rest_from table_order l.next l.rows.top.tables)
