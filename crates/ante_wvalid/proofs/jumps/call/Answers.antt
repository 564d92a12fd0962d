use Rattle.std.proofs.Common.{sym}
use Rattle.ante_wvalid.specs.Typing.{Calls}
use Rattle.ante_wvalid.proofs.Carrying.{later, turns_as, with_some}
use Rattle.ante_wvalid.proofs.jumps.call.Goals as goal

pub returns-in-Some : goal.returns-in-Some
returns-in-Some c = later c.turn.result _ _ (λ y h. with_some _ c.in-Some.callee.now Calls y c.args.operands.now _ (sym c.in-Some.ensures)
    (turns_as c.as_slice.result.now c.as_slice-in-Some.result.now c.in-Some.callee.now.params c.in-Some.callee.now.results y c.args.operands.now _ c.as_slice.ensures c.as_slice-in-Some.ensures h)) c.turn.ensures
