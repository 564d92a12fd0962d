use Rattle.ante_calls.specs.IndexCalls.{index_kind}
use Rattle.ante_calls.specs.PrimaryCalls.{gives}
use Rattle.ante_calls.specs.RowAnswers.{view_of, table_of}
use Rattle.ante_calls.specs.Rows.{end}
use Rattle.ante_rowcalls.specs.RowCalls.{AnswersRow}
use Rattle.ante_idxcalls.proofs.Showing.{at_table}
use Rattle.ante_idxcalls.proofs.looking.end.Goals as goal

pub returns-clause-answer : goal.returns-clause-answer
returns-clause-answer g c = λ m left.
    let v = view_of (g.T.Tables.stack c.args.tables.now) c.args.iters.now in
    let w = view_of (g.T.Tables.stack c.db_idx_end.new.tables) c.db_idx_end.new.iters in
    let kind = index_kind g.K.Indexed.form g.K.Indexed.index in
    at_table (λ t. AnswersRow (gives m left (end kind t v)) c.found.result v w m left)
    c.args.args.now c.name_arg-code.result c.name_arg-scope.result c.name_arg-table.result c.name_arg-code.ensures c.name_arg-scope.ensures c.name_arg-table.ensures
    (c.found.ensures (end kind (table_of c.name_arg-code.result c.name_arg-scope.result c.name_arg-table.result) v) v w m left c.db_idx_end.ensures.answer)
