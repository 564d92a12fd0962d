use Rattle.ante_sessions.proofs.Zipped.{zip_begun}
use Rattle.ante_sessions.proofs.both.BothSessions.begin.Goals as goal

pub returns-in-Ok-clause-ok : goal.returns-in-Ok-clause-ok
returns-in-Ok-clause-ok g c = rw (← c.self.view_is) (zip_begun _ _ _ _ c.self.invariant c.in_ok-revision.ensures.ok c.in-Ok.ensures.ok)
