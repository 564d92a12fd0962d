use Rattle.std.proofs.Common.{refl}
use Rattle.ante_calls.specs.Calls.{arg}
use Rattle.ante_calls.specs.Kinds.{primary_kind}
use Rattle.ante_calls.specs.RowAnswers.{view_of}
use Rattle.ante_calls.specs.Rows.{end}
use Rattle.ante_rowcalls.proofs.Showing.{found_for}
use Rattle.ante_rowcalls.proofs.looking.end.Goals as goal

pub returns-clause-answer : goal.returns-clause-answer
returns-clause-answer g c = λ m left.
    found_for (λ key primary. end primary_kind key) c.args.args.now c.name_arg-code.result c.name_arg-scope.result c.name_arg-table.result (arg c.args.args.now 3) c.db_end_i64.result c.found.result
    (view_of (g.T.Tables.stack c.args.tables.now) c.args.iters.now) (view_of (g.T.Tables.stack c.db_end_i64.new.tables) c.db_end_i64.new.iters) m left
    c.name_arg-code.ensures c.name_arg-scope.ensures c.name_arg-table.ensures refl c.found.ensures c.db_end_i64.ensures.answer
