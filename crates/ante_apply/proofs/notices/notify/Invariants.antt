use Rattle.std.proofs.Common.{◌≡◌, ℕ, ◌+◌, ◌≤◌, Bool, List, length}
use Rattle.ante_calls.specs.Views.{base_of}
use Rattle.ante_execution.specs.Codes.{Accepts, codes_with}
use Rattle.ante_execution.specs.Stopping.{Reaches}
use Rattle.ante_apply.specs.Going.{going}
use Rattle.ante_apply.specs.Scenes.{scene_of}
use Rattle.ante_apply.proofs.Rounds.{Notified}
use Rattle.ante_apply.proofs.notices.notify.Given as goal

abbrev pub invariant-each : goal.invariant-each
invariant-each g l =
    ((accepts : List ℕ → Bool) → Accepts accepts → Notified (codes_with accepts) (scene_of l.scene) l.action l.depth l.creator l.fn.asked
    (λ k. going (g.T.Tables.stack l.fn.tables).top l.fn.left l.fn.traces k) l.fn.left (g.P.Stop.looks l.fn.stop)
    l.so_far l.place (λ k. going (g.T.Tables.stack l.tables).top l.left l.traces k) l.left (g.P.Stop.looks l.stop))
    × (length l.traces + l.left ≤ length l.fn.traces + l.fn.left)
    × (base_of (g.T.Tables.stack l.tables) (g.T.Tables.writing l.tables) (g.T.Tables.lent l.tables)
    ≡ base_of (g.T.Tables.stack l.fn.tables) (g.T.Tables.writing l.fn.tables) (g.T.Tables.lent l.fn.tables))
    × Reaches g.P.Stop.may l.fn.stop l.stop
    × (l.place + l.left ≤ l.fn.left)

abbrev pub decreases-each : goal.decreases-each
decreases-each g l = l.left
