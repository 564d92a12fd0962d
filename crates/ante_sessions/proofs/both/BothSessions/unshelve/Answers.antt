use Rattle.ante_sessions.proofs.Zipped.{zip_unshelved}
use Rattle.ante_sessions.proofs.both.BothSessions.unshelve.Goals as goal

pub returns : goal.returns
returns g c = rw (← c.self.view_is) (zip_unshelved _ _ _ _ c.self.invariant c.unshelve.ensures c.unshelve-2.ensures)
