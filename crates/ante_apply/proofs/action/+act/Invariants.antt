use Rattle.std.proofs.Common.{◌≡◌, ℕ, ◌+◌, ◌-◌, ◌≤◌, Bool, List, length}
use Rattle.ante_calls.specs.Views.{base_of}
use Rattle.ante_execution.specs.Actions.{act}
use Rattle.ante_execution.specs.Codes.{Accepts, codes_with}
use Rattle.ante_execution.specs.Stopping.{Reaches}
use Rattle.ante_apply.specs.Going.{going}
use Rattle.ante_apply.specs.Scenes.{scene_of}
use Rattle.ante_apply.proofs.Rounds.{InTurn}
use Rattle.ante_apply.proofs.action.+act.Given as goal

abbrev pub decreases-act : goal.decreases-act
decreases-act g l = l.free

abbrev pub invariant-each : goal.invariant-each
invariant-each g l =
    ((accepts : List ℕ → Bool) → Accepts accepts → InTurn (act (codes_with accepts) (scene_of l.scene) (l.free - 1) (l.depth + 1)) l.initial.actions l.initial.senders
    (λ k. going (g.T.Tables.stack l.initial.tables).top l.initial.left l.initial.traces k) (g.P.Stop.looks l.initial.stop)
    l.actions l.senders (λ k. going (g.T.Tables.stack l.tables).top l.left l.traces k) (g.P.Stop.looks l.stop))
    × (length l.traces + l.left ≤ length l.fn.traces + l.fn.left)
    × (base_of (g.T.Tables.stack l.tables) (g.T.Tables.writing l.tables) (g.T.Tables.lent l.tables)
    ≡ base_of (g.T.Tables.stack l.fn.tables) (g.T.Tables.writing l.fn.tables) (g.T.Tables.lent l.fn.tables))
    × Reaches g.P.Stop.may l.fn.stop l.stop

abbrev pub decreases-each : goal.decreases-each
decreases-each g l = length l.actions
