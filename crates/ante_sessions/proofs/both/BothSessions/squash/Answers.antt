use Rattle.std.proofs.Common.{◌≤◌, subst}
use Rattle.ante_sessions.proofs.Zipped.{zip_squashed, open_sessions}
use Rattle.ante_sessions.proofs.both.BothSessions.squash.Goals as goal

pub returns : goal.returns
returns g c = rw (← c.self.view_is) (zip_squashed _ _ _ _ c.self.invariant c.squash.ensures c.squash-2.ensures)

pub squash-requires-clause-sessions : goal.squash-requires-clause-sessions
squash-requires-clause-sessions g c = subst (λ n. 2 ≤ n) (open_sessions _ _ c.self.invariant) (rw (← c.self.view_is) at c.requires.sessions)
