use Rattle.std.proofs.Common.{true}
use Rattle.std.proofs.Common.{refl}
use Rattle.ante_wvalid.proofs.Carrying.{forgets}
use Rattle.ante_wvalid.proofs.operand_types.OperandTypes.forget.Goals as goal

pub returns : goal.returns
returns c = forgets c.args.self.now (record { kinds = c.clear.new.self; bottomless = true }) c.clear.ensures refl
