use Rattle.std.proofs.Common.{◌+◌, ◌≤◌, subst}
use Rattle.ante_sessions.proofs.Zipped.{zip_shelved, open_sessions}
use Rattle.ante_sessions.proofs.both.BothSessions.shelve.Goals as goal

pub returns : goal.returns
returns g c = rw (← c.self.view_is) (zip_shelved _ _ _ _ c.args.revision c.self.invariant c.shelve.ensures c.shelve-2.ensures)

pub shelve-requires-clause-from : goal.shelve-requires-clause-from
shelve-requires-clause-from g c = subst (λ n. (g.A.Sessions.stack c.self.inside.first).revision ≤ c.args.revision + n) (open_sessions _ _ c.self.invariant) (rw (← c.self.view_is) at c.requires.from)
