use Rattle.ante_calls.specs.Calls.{arg32}
use Rattle.ante_calls.specs.IndexCalls.{after_key, find_secondary}
use Rattle.ante_calls.specs.RowAnswers.{view_of}
use Rattle.ante_calls.specs.RowReplies.{iterator_and_primary}
use Rattle.ante_idxapi.specs.Looked.{told}
use Rattle.ante_idxcalls.proofs.Showing.{sought_shown}
use Rattle.ante_idxcalls.proofs.looking.find_key.Goals as goal

pub returns-in-Ok-clause-answer : goal.returns-in-Ok-clause-answer
returns-in-Ok-clause-answer g c = λ left.
    let v = view_of (g.T.Tables.stack c.args.tables.now) c.args.iters.now in
    let w = view_of (g.T.Tables.stack c.db_idx_find_secondary.new.tables) c.db_idx_find_secondary.new.iters in
    sought_shown (iterator_and_primary (arg32 c.args.args.now (after_key g.K.Indexed.form g.K.Indexed.index 3)) c.args.memory.now) (λ table. told (λ place. place.1) (find_secondary g.K.Indexed.form g.K.Indexed.index table c.args.key v))
    c.args.args.now c.name_arg-code.result c.name_arg-scope.result c.name_arg-table.result c.in-Ok.found c.with_primary.result v w c.with_primary.new.memory left
    c.name_arg-code.ensures c.name_arg-scope.ensures c.name_arg-table.ensures c.in-Ok.ensures.answer (c.with_primary.ensures v w left)
