use Rattle.ante_wtree.specs.Expressions.{cons-Block, cons-Loop, cons-If}
use Rattle.ante_wtree.proofs.shape.shape_of.Goals as goal

pub returns-in-Block : goal.returns-in-Block
returns-in-Block c = λ rest. rw (c.deref.ensures.value, c.in-Block.is) (cons-Block c.in-Block.kind c.in-Block.body rest)

pub returns-in-Loop : goal.returns-in-Loop
returns-in-Loop c = λ rest. rw (c.deref-in-Loop.ensures.value, c.in-Loop.is) (cons-Loop c.in-Loop.kind c.in-Loop.body rest)

pub returns-in-If : goal.returns-in-If
returns-in-If c = λ rest. rw (c.deref-in-If.ensures.value, c.deref-in-If-2.ensures.value, c.in-If.is) (cons-If c.in-If.kind c.in-If.one c.in-If.two rest)
