use Rattle.ante_calls.specs.Calls.{arg, arg32}
use Rattle.ante_calls.specs.IndexCalls.{after_key, shows_key, find_primary}
use Rattle.ante_calls.specs.PrimaryCalls.{table_arg}
use Rattle.ante_idxcalls.specs.Keyed.{with_key}
use Rattle.ante_calls.specs.RowAnswers.{view_of}
use Rattle.ante_idxcalls.proofs.Showing.{keyed_shown}
use Rattle.ante_idxcalls.proofs.looking.find_primary.Goals as goal

pub returns-in-Ok-clause-answer : goal.returns-in-Ok-clause-answer
returns-in-Ok-clause-answer g c = λ left.
    let v = view_of (g.T.Tables.stack c.args.tables.now) c.args.iters.now in
    keyed_shown (with_key g.K.Indexed.form g.K.Indexed.index c.args.args.now c.args.memory.now) (λ key. shows_key g.K.Indexed.form g.K.Indexed.index (arg32 c.args.args.now 3) c.args.memory.now (find_primary g.K.Indexed.form g.K.Indexed.index (table_arg c.args.args.now) (arg c.args.args.now (after_key g.K.Indexed.form g.K.Indexed.index 3)) (view_of (g.T.Tables.stack c.args.tables.now) c.args.iters.now))) c.in-Ok._key c.find_row.result v
    (view_of (g.T.Tables.stack c.find_row.new.tables) c.find_row.new.iters) c.find_row.new.memory left
    (c.in-Ok.ensures.key (λ key. shows_key g.K.Indexed.form g.K.Indexed.index (arg32 c.args.args.now 3) c.args.memory.now (find_primary g.K.Indexed.form g.K.Indexed.index (table_arg c.args.args.now) (arg c.args.args.now (after_key g.K.Indexed.form g.K.Indexed.index 3)) (view_of (g.T.Tables.stack c.args.tables.now) c.args.iters.now))) left) (c.find_row.ensures.answer left)

pub returns-in-Err-clause-answer : goal.returns-in-Err-clause-answer
returns-in-Err-clause-answer g c = λ left.
    let v = view_of (g.T.Tables.stack c.args.tables.now) c.args.iters.now in
    c.in-Err.ensures.key (λ key. shows_key g.K.Indexed.form g.K.Indexed.index (arg32 c.args.args.now 3) c.args.memory.now (find_primary g.K.Indexed.form g.K.Indexed.index (table_arg c.args.args.now) (arg c.args.args.now (after_key g.K.Indexed.form g.K.Indexed.index 3)) (view_of (g.T.Tables.stack c.args.tables.now) c.args.iters.now))) left v
