use Rattle.ante_wvalid.proofs.Carrying.{drops_yes, drops_no}
use Rattle.ante_wvalid.proofs.operand_types.OperandTypes.drop_any.Goals as goal

pub returns-in-None : goal.returns-in-None
returns-in-None c = drops_no c.args.self.now c.pop_any.new.self c.in-None.ensures

pub returns-in-Some : goal.returns-in-Some
returns-in-Some c = drops_yes _ c.args.self.now c.pop_any.new.self c.in-Some.ensures
