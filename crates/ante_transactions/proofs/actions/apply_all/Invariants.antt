use Rattle.std.proofs.Common.{◌≡◌, ℕ, ◌+◌, ◌≤◌, Bool, List, length}
use Rattle.ante_calls.specs.Views.{base_of}
use Rattle.ante_execution.specs.Codes.{Accepts, codes_with}
use Rattle.ante_execution.specs.Stopping.{Reaches}
use Rattle.ante_apply.specs.Going.{going}
use Rattle.ante_apply.specs.Scenes.{mode_of, scene_with}
use Rattle.ante_transactions.proofs.Turns.{InOrder}
use Rattle.ante_transactions.proofs.actions.apply_all.Given as goal

abbrev pub invariant-each : goal.invariant-each
invariant-each g l =
    ((accepts : List ℕ → Bool) → Accepts accepts → InOrder (codes_with accepts) (scene_with (mode_of (g.T.Tables.writing l.fn.tables)) l.slot l.packed) l.actions
    (λ k. going (g.T.Tables.stack l.fn.tables).top l.fn.left l.fn.traces k) (g.P.Stop.looks l.fn.stop)
    l.rest (λ k. going (g.T.Tables.stack l.tables).top l.left l.traces k) (g.P.Stop.looks l.stop))
    × (length l.traces + l.left ≤ length l.fn.traces + l.fn.left)
    × (base_of (g.T.Tables.stack l.tables) (g.T.Tables.writing l.tables) (g.T.Tables.lent l.tables)
    ≡ base_of (g.T.Tables.stack l.fn.tables) (g.T.Tables.writing l.fn.tables) (g.T.Tables.lent l.fn.tables))
    × Reaches g.P.Stop.may l.fn.stop l.stop

abbrev pub decreases-each : goal.decreases-each
decreases-each g l = length l.rest
