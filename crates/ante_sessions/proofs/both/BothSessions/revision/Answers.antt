use Rattle.ante_sessions.proofs.Zipped.{zip_sound}
use Rattle.ante_sessions.proofs.both.BothSessions.revision.Goals as goal

pub returns-clause-sound : goal.returns-clause-sound
returns-clause-sound g c = rw (← c.self.view_is) (zip_sound _ _ c.self.invariant c.revision.ensures.sound)
