use Rattle.ante_sessions.proofs.Seen.{seen_shelved}
use Rattle.ante_sessions.proofs.kept.KeptSessions.shelve.Goals as goal

pub returns : goal.returns
returns g c = rw (← c.self.view_is) (seen_shelved g.R.Rule.shown c.args.revision (g.S.Sessions.stack c.self.inside.inner) (g.S.Sessions.stack c.shelve.new.self) c.shelve.ensures)
