use Rattle.ante_calls.specs.PrimaryCalls.{upperbound_i64}
use Rattle.ante_calls.specs.RowAnswers.{view_of}
use Rattle.ante_rowcalls.proofs.Showing.{found_for}
use Rattle.ante_rowcalls.proofs.looking.upper_bound.Goals as goal

pub returns-clause-answer : goal.returns-clause-answer
returns-clause-answer g c = λ m left.
    found_for upperbound_i64 c.args.args.now c.name_arg-code.result c.name_arg-scope.result c.name_arg-table.result c.arg-primary.result c.db_upperbound_i64.result c.found.result
    (view_of (g.T.Tables.stack c.args.tables.now) c.args.iters.now) (view_of (g.T.Tables.stack c.db_upperbound_i64.new.tables) c.db_upperbound_i64.new.iters) m left
    c.name_arg-code.ensures c.name_arg-scope.ensures c.name_arg-table.ensures c.arg-primary.ensures c.found.ensures c.db_upperbound_i64.ensures.answer
