use Rattle.std.proofs.Common.{sym, subst}
use Rattle.ante_calls.specs.IndexCalls.{index_call}
use Rattle.ante_calls.specs.RowAnswers.{view_of}
use Rattle.ante_rowcalls.specs.RowCalls.{AnswersRow}
use Rattle.ante_idxcalls.proofs.call.index_call.Goals as goal

pub returns-in-Store-clause-answer : goal.returns-in-Store-clause-answer
returns-in-Store-clause-answer g c =
    let v = view_of (g.T.Tables.stack c.args.tables.now) c.args.iters.now in
    subst (λ k. AnswersRow (index_call g.K.Indexed.form g.K.Indexed.index k c.args.run.now v c.args.args.now c.args.memory.now c.args.left.now) c.store.result v
    (view_of (g.T.Tables.stack c.store.new.tables) c.store.new.iters) c.args.memory.now c.args.left.now) (sym c.in-Store.is)
    (c.store.ensures.answer c.args.left.now)

pub returns-in-Update-clause-answer : goal.returns-in-Update-clause-answer
returns-in-Update-clause-answer g c =
    let v = view_of (g.T.Tables.stack c.args.tables.now) c.args.iters.now in
    subst (λ k. AnswersRow (index_call g.K.Indexed.form g.K.Indexed.index k c.args.run.now v c.args.args.now c.args.memory.now c.args.left.now) c.update.result v
    (view_of (g.T.Tables.stack c.update.new.tables) c.update.new.iters) c.args.memory.now c.args.left.now) (sym c.in-Update.is)
    (c.update.ensures.answer c.args.left.now)

pub returns-in-Remove-clause-answer : goal.returns-in-Remove-clause-answer
returns-in-Remove-clause-answer g c =
    let v = view_of (g.T.Tables.stack c.args.tables.now) c.args.iters.now in
    subst (λ k. AnswersRow (index_call g.K.Indexed.form g.K.Indexed.index k c.args.run.now v c.args.args.now c.args.memory.now c.args.left.now) c.remove.result v
    (view_of (g.T.Tables.stack c.remove.new.tables) c.remove.new.iters) c.args.memory.now c.args.left.now) (sym c.in-Remove.is)
    (c.remove.ensures.answer c.args.memory.now c.args.left.now)

pub returns-in-Next-clause-answer : goal.returns-in-Next-clause-answer
returns-in-Next-clause-answer g c =
    let v = view_of (g.T.Tables.stack c.args.tables.now) c.args.iters.now in
    subst (λ k. AnswersRow (index_call g.K.Indexed.form g.K.Indexed.index k c.args.run.now v c.args.args.now c.args.memory.now c.args.left.now) c.next.result v
    (view_of (g.T.Tables.stack c.next.new.tables) c.next.new.iters) c.next.new.memory c.args.left.now) (sym c.in-Next.is)
    (c.next.ensures.answer c.args.left.now)

pub returns-in-Previous-clause-answer : goal.returns-in-Previous-clause-answer
returns-in-Previous-clause-answer g c =
    let v = view_of (g.T.Tables.stack c.args.tables.now) c.args.iters.now in
    subst (λ k. AnswersRow (index_call g.K.Indexed.form g.K.Indexed.index k c.args.run.now v c.args.args.now c.args.memory.now c.args.left.now) c.previous.result v
    (view_of (g.T.Tables.stack c.previous.new.tables) c.previous.new.iters) c.previous.new.memory c.args.left.now) (sym c.in-Previous.is)
    (c.previous.ensures.answer c.args.left.now)

pub returns-in-FindPrimary-clause-answer : goal.returns-in-FindPrimary-clause-answer
returns-in-FindPrimary-clause-answer g c =
    let v = view_of (g.T.Tables.stack c.args.tables.now) c.args.iters.now in
    subst (λ k. AnswersRow (index_call g.K.Indexed.form g.K.Indexed.index k c.args.run.now v c.args.args.now c.args.memory.now c.args.left.now) c.find_primary.result v
    (view_of (g.T.Tables.stack c.find_primary.new.tables) c.find_primary.new.iters) c.find_primary.new.memory c.args.left.now) (sym c.in-FindPrimary.is)
    (c.find_primary.ensures.answer c.args.left.now)

pub returns-in-FindSecondary-clause-answer : goal.returns-in-FindSecondary-clause-answer
returns-in-FindSecondary-clause-answer g c =
    let v = view_of (g.T.Tables.stack c.args.tables.now) c.args.iters.now in
    subst (λ k. AnswersRow (index_call g.K.Indexed.form g.K.Indexed.index k c.args.run.now v c.args.args.now c.args.memory.now c.args.left.now) c.find_secondary.result v
    (view_of (g.T.Tables.stack c.find_secondary.new.tables) c.find_secondary.new.iters) c.find_secondary.new.memory c.args.left.now) (sym c.in-FindSecondary.is)
    (c.find_secondary.ensures.answer c.args.left.now)

pub returns-in-LowerBound-clause-answer : goal.returns-in-LowerBound-clause-answer
returns-in-LowerBound-clause-answer g c =
    let v = view_of (g.T.Tables.stack c.args.tables.now) c.args.iters.now in
    subst (λ k. AnswersRow (index_call g.K.Indexed.form g.K.Indexed.index k c.args.run.now v c.args.args.now c.args.memory.now c.args.left.now) c.lower_bound.result v
    (view_of (g.T.Tables.stack c.lower_bound.new.tables) c.lower_bound.new.iters) c.lower_bound.new.memory c.args.left.now) (sym c.in-LowerBound.is)
    (c.lower_bound.ensures.answer c.args.left.now)

pub returns-in-UpperBound-clause-answer : goal.returns-in-UpperBound-clause-answer
returns-in-UpperBound-clause-answer g c =
    let v = view_of (g.T.Tables.stack c.args.tables.now) c.args.iters.now in
    subst (λ k. AnswersRow (index_call g.K.Indexed.form g.K.Indexed.index k c.args.run.now v c.args.args.now c.args.memory.now c.args.left.now) c.upper_bound.result v
    (view_of (g.T.Tables.stack c.upper_bound.new.tables) c.upper_bound.new.iters) c.upper_bound.new.memory c.args.left.now) (sym c.in-UpperBound.is)
    (c.upper_bound.ensures.answer c.args.left.now)

pub returns-in-End-clause-answer : goal.returns-in-End-clause-answer
returns-in-End-clause-answer g c =
    let v = view_of (g.T.Tables.stack c.args.tables.now) c.args.iters.now in
    subst (λ k. AnswersRow (index_call g.K.Indexed.form g.K.Indexed.index k c.args.run.now v c.args.args.now c.args.memory.now c.args.left.now) c.end.result v
    (view_of (g.T.Tables.stack c.end.new.tables) c.end.new.iters) c.args.memory.now c.args.left.now) (sym c.in-End.is)
    (c.end.ensures.answer c.args.memory.now c.args.left.now)
