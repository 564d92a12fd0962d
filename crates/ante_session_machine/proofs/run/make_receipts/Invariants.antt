use Rattle.std.proofs.Common.{◌≡◌, ℕ, length}
use Rattle.ante_undo.specs.Stack.{with_top}
use Rattle.ante_session_machine.specs.Under.{IsOpened}
use Rattle.ante_machine.specs.Steps.{receipts_run}
use Rattle.ante_session_machine.proofs.run.make_receipts.Given as goal

abbrev pub invariant-loop-receipt : goal.invariant-loop-receipt
invariant-loop-receipt g l =
    (receipts_run g.E.Effects.steps l.chain (g.V.Verdicts.judge l.verdicts) l.info l.receipts (g.S.Sessions.stack l.fn.state).top
    ≡ receipts_run g.E.Effects.steps l.chain (g.V.Verdicts.judge l.verdicts) l.info l.rest (g.S.Sessions.stack l.state).top)
    × (g.S.Sessions.stack l.state ≡ with_top (g.S.Sessions.stack l.state).top (g.S.Sessions.stack l.fn.state))
    × IsOpened (g.S.Sessions.stack l.state)

abbrev pub decreases-loop-receipt : goal.decreases-loop-receipt
decreases-loop-receipt g l = length l.rest
