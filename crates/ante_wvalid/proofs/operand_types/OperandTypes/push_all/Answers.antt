use Rattle.ante_wvalid.proofs.Carrying.{pushing_last, none_left, pushing_more}
use Rattle.ante_wvalid.proofs.operand_types.OperandTypes.push_all.Goals as goal

pub kinds-preserved : goal.kinds-preserved
kinds-preserved c = pushing_more c.args.kinds.now c.kinds.rest.now c.in-Some.tail.now c.in-Some.kind.now c.args.self.now c.kinds.self c.push.new.self c.in-Some.ensures.cases.0 c.kinds.invariant c.in_ok-push.ensures.kinds c.in_ok-push.ensures.bottomless

pub returns : goal.returns
returns c = pushing_last c.args.kinds.now c.kinds.rest.now c.args.self.now c.kinds.self (none_left c.kinds.rest.now c.in_default.ensures.cases) c.kinds.invariant
