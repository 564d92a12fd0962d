use Rattle.ante_sessions.proofs.Zipped.{zip_undone}
use Rattle.ante_sessions.proofs.both.BothSessions.undo.Goals as goal

pub returns : goal.returns
returns g c = rw (← c.self.view_is) (zip_undone _ _ _ _ c.self.invariant c.undo.ensures c.undo-2.ensures)
