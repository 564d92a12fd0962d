use Rattle.ante_sessions.proofs.Zipped.{zip_committed}
use Rattle.ante_sessions.proofs.both.BothSessions.commit.Goals as goal

pub returns : goal.returns
returns g c = rw (← c.self.view_is) (zip_committed _ _ _ _ c.args.revision c.self.invariant c.commit.ensures c.commit-2.ensures)
