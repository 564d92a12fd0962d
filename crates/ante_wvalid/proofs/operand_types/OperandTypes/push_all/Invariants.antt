use Rattle.std.proofs.Common.{length}
use Rattle.ante_wvalid.proofs.Carrying.{Pushing}
use Rattle.ante_wvalid.proofs.operand_types.OperandTypes.push_all.Given as goal

abbrev pub invariant-kinds : goal.invariant-kinds
invariant-kinds l = Pushing l.fn.kinds l.rest l.fn.self l.self

abbrev pub decreases-kinds : goal.decreases-kinds
decreases-kinds l = length l.rest
