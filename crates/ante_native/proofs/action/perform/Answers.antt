use Rattle.ante_native.proofs.action.perform.Goals as goal

pub returns-in-SetCode-clause-does : goal.returns-in-SetCode-clause-does
returns-in-SetCode-clause-does g c = λ accepts is. rw c.in-SetCode.is (c.setcode.ensures.does accepts is)
