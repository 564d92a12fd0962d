use Rattle.ante_sessions.proofs.Seen.{seen_committed}
use Rattle.ante_sessions.proofs.kept.KeptSessions.commit.Goals as goal

pub returns : goal.returns
returns g c = rw (← c.self.view_is) (seen_committed g.R.Rule.shown c.args.revision (g.S.Sessions.stack c.self.inside.inner) (g.S.Sessions.stack c.commit.new.self) c.commit.ensures)
