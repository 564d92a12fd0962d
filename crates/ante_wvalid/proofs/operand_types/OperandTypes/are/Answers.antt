use Rattle.ante_wvalid.proofs.Carrying.{are_yes, is_nothing, nothing_is}
use Rattle.ante_wvalid.proofs.operand_types.OperandTypes.are.Goals as goal

pub returns : goal.returns
returns c =
    let q = are_yes c.args.kinds.now c.pop_all.result c.args.self.now c.pop_all.new.self c.pop_all.ensures c.if-not-pop_all.false in
    (λ e. q.from (nothing_is c.pop_all.new.self.kinds c.pop_all.new.self.bottomless (c.is_empty.ensures.0 e)), λ o. c.is_empty.ensures.1 (is_nothing c.pop_all.new.self.kinds c.pop_all.new.self.bottomless (q.to o)))
