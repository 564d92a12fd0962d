use Rattle.ante_calls.specs.IndexCalls.{lowerbound}
use Rattle.ante_calls.specs.PrimaryCalls.{table_arg}
use Rattle.ante_idxcalls.specs.Keyed.{with_keys, shows_bound}
use Rattle.ante_calls.specs.RowAnswers.{view_of}
use Rattle.ante_idxcalls.proofs.Showing.{keyed_shown}
use Rattle.ante_idxcalls.proofs.looking.lower_bound.Goals as goal

pub returns-in-Ok-clause-answer : goal.returns-in-Ok-clause-answer
returns-in-Ok-clause-answer g c = λ left.
    let v = view_of (g.T.Tables.stack c.args.tables.now) c.args.iters.now in
    keyed_shown (with_keys g.K.Indexed.form g.K.Indexed.index c.args.args.now c.args.memory.now) (λ key. shows_bound g.K.Indexed.form g.K.Indexed.index c.args.args.now c.args.memory.now (lowerbound g.K.Indexed.form g.K.Indexed.index (table_arg c.args.args.now) key (view_of (g.T.Tables.stack c.args.tables.now) c.args.iters.now))) c.in-Ok.key c.bound_from.result v
    (view_of (g.T.Tables.stack c.bound_from.new.tables) c.bound_from.new.iters) c.bound_from.new.memory left
    (c.in-Ok.ensures.key (λ key. shows_bound g.K.Indexed.form g.K.Indexed.index c.args.args.now c.args.memory.now (lowerbound g.K.Indexed.form g.K.Indexed.index (table_arg c.args.args.now) key (view_of (g.T.Tables.stack c.args.tables.now) c.args.iters.now))) left) (c.bound_from.ensures.answer left)

pub returns-in-Err-clause-answer : goal.returns-in-Err-clause-answer
returns-in-Err-clause-answer g c = λ left.
    let v = view_of (g.T.Tables.stack c.args.tables.now) c.args.iters.now in
    c.in-Err.ensures.key (λ key. shows_bound g.K.Indexed.form g.K.Indexed.index c.args.args.now c.args.memory.now (lowerbound g.K.Indexed.form g.K.Indexed.index (table_arg c.args.args.now) key (view_of (g.T.Tables.stack c.args.tables.now) c.args.iters.now))) left v
