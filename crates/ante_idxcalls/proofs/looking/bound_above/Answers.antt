use Rattle.std.proofs.Common.{Ok}
use Rattle.ante_calls.specs.IndexCalls.{upperbound}
use Rattle.ante_calls.specs.RowAnswers.{view_of}
use Rattle.ante_idxcalls.specs.Keyed.{shows_bound}
use Rattle.ante_idxcalls.proofs.Showing.{sought_shown}
use Rattle.ante_idxcalls.proofs.looking.bound_above.Goals as goal

pub returns-in-Ok-clause-answer : goal.returns-in-Ok-clause-answer
returns-in-Ok-clause-answer g c = λ left.
    let v = view_of (g.T.Tables.stack c.args.tables.now) c.args.iters.now in
    let w = view_of (g.T.Tables.stack c.db_idx_upperbound.new.tables) c.db_idx_upperbound.new.iters in
    sought_shown (λ a u. shows_bound g.K.Indexed.form g.K.Indexed.index c.args.args.now c.args.memory.now (a, u)) (λ table. Ok (upperbound g.K.Indexed.form g.K.Indexed.index table c.args.key v))
    c.args.args.now c.name_arg-code.result c.name_arg-scope.result c.name_arg-table.result c.in-Ok.found c.with_both.result v w c.with_both.new.memory left
    c.name_arg-code.ensures c.name_arg-scope.ensures c.name_arg-table.ensures c.in-Ok.ensures.answer (c.with_both.ensures v w left)
