use Rattle.std.proofs.lemmas.Slice.Eq.{slice_eq-Decides}
use Rattle.ante_wtree.proofs.SameKinds.{kinds_decide, test_is}
use Rattle.ante_wtree.proofs.types.same_kinds.Goals as goal

pub returns-clause-test : goal.returns-clause-test
returns-clause-test c = test_is c.eq.result c.args.one.now c.args.two.now (slice_eq-Decides kinds_decide c.args.one.now c.args.two.now c.eq.result c.eq.ensures)

pub returns-clause-equal : goal.returns-clause-equal
returns-clause-equal c = slice_eq-Decides kinds_decide c.args.one.now c.args.two.now c.eq.result c.eq.ensures
