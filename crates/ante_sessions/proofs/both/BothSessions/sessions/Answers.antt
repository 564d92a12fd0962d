use Rattle.std.proofs.Common.{sym, ◌∙◌}
use Rattle.ante_sessions.proofs.Zipped.{zip_sound, open_sessions}
use Rattle.ante_sessions.proofs.both.BothSessions.sessions.Goals as goal

pub returns-clause-sound : goal.returns-clause-sound
returns-clause-sound g c = rw (← c.self.view_is) (zip_sound _ _ c.self.invariant c.sessions.ensures.sound)

pub returns-clause-count : goal.returns-clause-count
returns-clause-count g c = rw (← c.self.view_is) (c.sessions.ensures.count ∙ sym (open_sessions _ _ c.self.invariant))
