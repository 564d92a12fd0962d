use Rattle.std.proofs.Common.{sym, subst}
use Rattle.ante_calls.specs.PrimaryCalls as definitions
use Rattle.ante_calls.specs.RowAnswers.{view_of}
use Rattle.ante_rowcalls.specs.RowCalls.{AnswersRow}
use Rattle.ante_rowcalls.proofs.call.row_call.Goals as goal

pub returns-in-Remove-clause-answer : goal.returns-in-Remove-clause-answer
returns-in-Remove-clause-answer g c =
    let v = view_of (g.T.Tables.stack c.args.tables.now) c.args.iters.now in
    subst (λ k. AnswersRow (definitions.row_call k c.args.run.now v c.args.args.now c.args.memory.now c.args.left.now) c.remove.result v
    (view_of (g.T.Tables.stack c.remove.new.tables) c.remove.new.iters) c.args.memory.now c.args.left.now) (sym c.in-Remove.is)
    (c.remove.ensures.answer c.args.memory.now c.args.left.now)

pub returns-in-Find-clause-answer : goal.returns-in-Find-clause-answer
returns-in-Find-clause-answer g c =
    let v = view_of (g.T.Tables.stack c.args.tables.now) c.args.iters.now in
    subst (λ k. AnswersRow (definitions.row_call k c.args.run.now v c.args.args.now c.args.memory.now c.args.left.now) c.find.result v
    (view_of (g.T.Tables.stack c.find.new.tables) c.find.new.iters) c.args.memory.now c.args.left.now) (sym c.in-Find.is)
    (c.find.ensures.answer c.args.memory.now c.args.left.now)

pub returns-in-LowerBound-clause-answer : goal.returns-in-LowerBound-clause-answer
returns-in-LowerBound-clause-answer g c =
    let v = view_of (g.T.Tables.stack c.args.tables.now) c.args.iters.now in
    subst (λ k. AnswersRow (definitions.row_call k c.args.run.now v c.args.args.now c.args.memory.now c.args.left.now) c.lower_bound.result v
    (view_of (g.T.Tables.stack c.lower_bound.new.tables) c.lower_bound.new.iters) c.args.memory.now c.args.left.now) (sym c.in-LowerBound.is)
    (c.lower_bound.ensures.answer c.args.memory.now c.args.left.now)

pub returns-in-UpperBound-clause-answer : goal.returns-in-UpperBound-clause-answer
returns-in-UpperBound-clause-answer g c =
    let v = view_of (g.T.Tables.stack c.args.tables.now) c.args.iters.now in
    subst (λ k. AnswersRow (definitions.row_call k c.args.run.now v c.args.args.now c.args.memory.now c.args.left.now) c.upper_bound.result v
    (view_of (g.T.Tables.stack c.upper_bound.new.tables) c.upper_bound.new.iters) c.args.memory.now c.args.left.now) (sym c.in-UpperBound.is)
    (c.upper_bound.ensures.answer c.args.memory.now c.args.left.now)

pub returns-in-End-clause-answer : goal.returns-in-End-clause-answer
returns-in-End-clause-answer g c =
    let v = view_of (g.T.Tables.stack c.args.tables.now) c.args.iters.now in
    subst (λ k. AnswersRow (definitions.row_call k c.args.run.now v c.args.args.now c.args.memory.now c.args.left.now) c.end.result v
    (view_of (g.T.Tables.stack c.end.new.tables) c.end.new.iters) c.args.memory.now c.args.left.now) (sym c.in-End.is)
    (c.end.ensures.answer c.args.memory.now c.args.left.now)

pub returns-in-Next-clause-answer : goal.returns-in-Next-clause-answer
returns-in-Next-clause-answer g c =
    let v = view_of (g.T.Tables.stack c.args.tables.now) c.args.iters.now in
    subst (λ k. AnswersRow (definitions.row_call k c.args.run.now v c.args.args.now c.args.memory.now c.args.left.now) c.next.result v
    (view_of (g.T.Tables.stack c.next.new.tables) c.next.new.iters) c.next.new.memory c.args.left.now) (sym c.in-Next.is)
    (c.next.ensures.answer c.args.left.now)

pub returns-in-Previous-clause-answer : goal.returns-in-Previous-clause-answer
returns-in-Previous-clause-answer g c =
    let v = view_of (g.T.Tables.stack c.args.tables.now) c.args.iters.now in
    subst (λ k. AnswersRow (definitions.row_call k c.args.run.now v c.args.args.now c.args.memory.now c.args.left.now) c.previous.result v
    (view_of (g.T.Tables.stack c.previous.new.tables) c.previous.new.iters) c.previous.new.memory c.args.left.now) (sym c.in-Previous.is)
    (c.previous.ensures.answer c.args.left.now)
