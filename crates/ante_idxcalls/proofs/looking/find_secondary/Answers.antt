use Rattle.ante_calls.specs.Calls.{arg32}
use Rattle.ante_calls.specs.IndexCalls.{after_key, shows_primary, find_secondary}
use Rattle.ante_calls.specs.PrimaryCalls.{table_arg}
use Rattle.ante_idxcalls.specs.Keyed.{with_keys}
use Rattle.ante_calls.specs.RowAnswers.{view_of}
use Rattle.ante_idxcalls.proofs.Showing.{keyed_shown}
use Rattle.ante_idxcalls.proofs.looking.find_secondary.Goals as goal

pub returns-in-Ok-clause-answer : goal.returns-in-Ok-clause-answer
returns-in-Ok-clause-answer g c = λ left.
    let v = view_of (g.T.Tables.stack c.args.tables.now) c.args.iters.now in
    keyed_shown (with_keys g.K.Indexed.form g.K.Indexed.index c.args.args.now c.args.memory.now) (λ key. shows_primary g.K.Indexed.form g.K.Indexed.index (arg32 c.args.args.now (after_key g.K.Indexed.form g.K.Indexed.index 3)) c.args.memory.now (find_secondary g.K.Indexed.form g.K.Indexed.index (table_arg c.args.args.now) key (view_of (g.T.Tables.stack c.args.tables.now) c.args.iters.now))) c.in-Ok.key c.find_key.result v
    (view_of (g.T.Tables.stack c.find_key.new.tables) c.find_key.new.iters) c.find_key.new.memory left
    (c.in-Ok.ensures.key (λ key. shows_primary g.K.Indexed.form g.K.Indexed.index (arg32 c.args.args.now (after_key g.K.Indexed.form g.K.Indexed.index 3)) c.args.memory.now (find_secondary g.K.Indexed.form g.K.Indexed.index (table_arg c.args.args.now) key (view_of (g.T.Tables.stack c.args.tables.now) c.args.iters.now))) left) (c.find_key.ensures.answer left)

pub returns-in-Err-clause-answer : goal.returns-in-Err-clause-answer
returns-in-Err-clause-answer g c = λ left.
    let v = view_of (g.T.Tables.stack c.args.tables.now) c.args.iters.now in
    c.in-Err.ensures.key (λ key. shows_primary g.K.Indexed.form g.K.Indexed.index (arg32 c.args.args.now (after_key g.K.Indexed.form g.K.Indexed.index 3)) c.args.memory.now (find_secondary g.K.Indexed.form g.K.Indexed.index (table_arg c.args.args.now) key (view_of (g.T.Tables.stack c.args.tables.now) c.args.iters.now))) left v
