use Rattle.std.specs.Prelude.{codes}
use Rattle.ante_calls.specs.IndexCalls.{name_of}
use Rattle.ante_idxcalls.specs.Keyed.{with_written, updated_by}
use Rattle.ante_calls.specs.RowAnswers.{view_of}
use Rattle.ante_idxcalls.proofs.Showing.{keyed_shown}
use Rattle.ante_idxcalls.proofs.writing.update.Goals as goal

pub returns-in-Ok-clause-answer : goal.returns-in-Ok-clause-answer
returns-in-Ok-clause-answer g c = λ left.
    let v = view_of (g.T.Tables.stack c.args.tables.now) c.args.iters.now in
    keyed_shown (with_written g.K.Indexed.form g.K.Indexed.index (name_of g.K.Indexed.form g.K.Indexed.index (codes "update")) c.args.run.now.mode 2 c.args.args.now c.args.memory.now) (updated_by g.K.Indexed.form g.K.Indexed.index c.args.run.now c.args.args.now c.args.memory.now (view_of (g.T.Tables.stack c.args.tables.now) c.args.iters.now)) c.in-Ok.key c.update_key.result v
    (view_of (g.T.Tables.stack c.update_key.new.tables) c.update_key.new.iters) c.args.memory.now left
    (c.in-Ok.ensures (updated_by g.K.Indexed.form g.K.Indexed.index c.args.run.now c.args.args.now c.args.memory.now (view_of (g.T.Tables.stack c.args.tables.now) c.args.iters.now)) left) (c.update_key.ensures.answer c.args.memory.now left)

pub returns-in-Err-clause-answer : goal.returns-in-Err-clause-answer
returns-in-Err-clause-answer g c = λ left.
    let v = view_of (g.T.Tables.stack c.args.tables.now) c.args.iters.now in
    c.in-Err.ensures (updated_by g.K.Indexed.form g.K.Indexed.index c.args.run.now c.args.args.now c.args.memory.now (view_of (g.T.Tables.stack c.args.tables.now) c.args.iters.now)) left v
