use Rattle.std.proofs.Common.{true}
use Rattle.ante_wvalid.specs.Typing.{Pops, Pushes}
use Rattle.ante_wvalid.proofs.Carrying.{then_no, then_yes}
use Rattle.ante_wvalid.proofs.operand_types.OperandTypes.turn.Goals as goal

pub returns-then-not-pop_all : goal.returns-then-not-pop_all
returns-then-not-pop_all c = then_no (Pops c.args.takes.now) (Pushes c.args.gives.now) c.pop_all.result c.args.self.now c.pop_all.new.self c.pop_all.new.self c.pop_all.ensures c.if-not-pop_all.true

pub returns : goal.returns
returns c = then_yes (Pops c.args.takes.now) (Pushes c.args.gives.now) c.pop_all.result true c.args.self.now c.pop_all.new.self c.push_all.new.self c.pop_all.ensures c.if-not-pop_all.false c.in_ok-push_all.ensures
