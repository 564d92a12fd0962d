use Rattle.std.proofs.Common.{arith}
use Rattle.ante_wtree.specs.Trees.{tree_of}
use Rattle.ante_wvalid.specs.Modules.{IsUntyped}
use Rattle.ante_wvalid.proofs.Places.{one_further}
use Rattle.ante_wvalid.proofs.functions.first_untyped.Goals as goal

pub returns-then-not-branch : goal.returns-then-not-branch
returns-then-not-branch c = (((c.places-count.ensures c.functions.at).0 c.functions-test.true, λ t. let e = c.in_ok-is_typed.ensures.1 t in cc), c.functions.invariant)

pub functions-preserved : goal.functions-preserved
functions-preserved c = one_further (IsUntyped (tree_of c.args.module.now)) c.functions.at c.functions.invariant (λ u. u.1 (c.in_ok-is_typed.ensures.0 c.if-not-branch.false))

pub returns : goal.returns
returns c = λ k u. let lt = (c.places-count.ensures k).1 u.0 in c.functions.invariant k (omega (arith, lt, c.functions-test.false)) u
