use Rattle.ante_wvalid.proofs.Carrying.{popping_more, popping_stops}
use Rattle.ante_wvalid.proofs.operand_types.OperandTypes.pop_all.Goals as goal

pub returns-then-not-pop_kind : goal.returns-then-not-pop_kind
returns-then-not-pop_kind c = popping_stops c.args.kinds.now c.kinds.rest.now c.in-Some.front.now c.in-Some.kind.now c.pop_kind.result c.args.self.now c.kinds.self c.pop_kind.new.self c.in-Some.ensures.cases.0 c.kinds.invariant c.pop_kind.ensures c.if-not-pop_kind.true

pub kinds-preserved : goal.kinds-preserved
kinds-preserved c = popping_more c.args.kinds.now c.kinds.rest.now c.in-Some.front.now c.in-Some.kind.now c.pop_kind.result c.args.self.now c.kinds.self c.pop_kind.new.self c.in-Some.ensures.cases.0 c.kinds.invariant c.pop_kind.ensures c.if-not-pop_kind.false
