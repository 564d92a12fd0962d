use Rattle.std.proofs.Common.{suc, length, arith}
use Rattle.ante_wdecode.proofs.nested.read_expression.Goals as goal

pub returns-in-Ok : goal.returns-in-Ok
returns-in-Ok c = c.in-Ok.ensures (suc (length c.args.bytes.now)) (omega arith)

pub returns-in-Err : goal.returns-in-Err
returns-in-Err c = c.in-Err.ensures (suc (length c.args.bytes.now)) (omega arith)
