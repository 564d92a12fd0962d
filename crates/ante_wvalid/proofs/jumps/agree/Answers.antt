use Rattle.std.proofs.Common.{◌≡◌, Some, slice_get}
use Rattle.ante_wvalid.proofs.Carrying.{all_more}
use Rattle.ante_wvalid.proofs.jumps.agree.Goals as goal

pub targets-preserved : goal.targets-preserved
targets-preserved c = all_more (λ k. slice_get c.args.labels.now k ≡ Some c.args.label) c.args.targets.now c.targets.rest.now c.in-Some.tail.now c.in-Some.target.now c.in-Some.ensures.cases.0 c.targets.invariant (c.is_label.ensures.0 c.if-not-is_label.false)
