use Rattle.std.proofs.Common.{true, false}
use Rattle.ante_wvalid.proofs.Carrying.{selects, selects_not, two_none, two_one, two_apart, two_yes}
use Rattle.ante_wvalid.proofs.operand_types.OperandTypes.select.Goals as goal

pub returns-then-not-pop_kind : goal.returns-then-not-pop_kind
returns-then-not-pop_kind c = selects_not c.pop_kind.result c.args.self.now c.pop_kind.new.self c.pop_kind.new.self c.pop_kind.ensures c.if-not-pop_kind.true

pub returns-in_default : goal.returns-in_default
returns-in_default c = selects c.pop_kind.result false c.args.self.now c.pop_kind.new.self c.pop_any.new.self c.pop_kind.ensures c.if-not-pop_kind.false
    (two_none c.pop_kind.new.self c.pop_any.new.self c.in_default.ensures)

pub returns-in_default-pop_any : goal.returns-in_default-pop_any
returns-in_default-pop_any c = selects c.pop_kind.result false c.args.self.now c.pop_kind.new.self c.pop_any-2.new.self c.pop_kind.ensures c.if-not-pop_kind.false
    (two_one c.in-Some.second c.pop_kind.new.self c.pop_any.new.self c.pop_any-2.new.self c.in-Some.ensures c.in_default-pop_any.ensures)

pub returns-in_default-joined : goal.returns-in_default-joined
returns-in_default-joined c = selects c.pop_kind.result false c.args.self.now c.pop_kind.new.self c.pop_any-2.new.self c.pop_kind.ensures c.if-not-pop_kind.false
    (two_apart c.in-Some.second c.in-Some-pop_any.first c.pop_kind.new.self c.pop_any.new.self c.pop_any-2.new.self c.pop_any-2.new.self c.in-Some.ensures c.in-Some-pop_any.ensures c.in_default-joined.ensures)

pub returns : goal.returns
returns c = selects c.pop_kind.result true c.args.self.now c.pop_kind.new.self c.push.new.self c.pop_kind.ensures c.if-not-pop_kind.false
    (two_yes c.in-Some.second c.in-Some-pop_any.first c.in-Some-joined.both c.pop_kind.new.self c.pop_any.new.self c.pop_any-2.new.self c.push.new.self c.in-Some.ensures c.in-Some-pop_any.ensures c.in-Some-joined.ensures c.in_ok-push.ensures.kinds c.in_ok-push.ensures.bottomless)
