use Rattle.ante_window.proofs.Looking.{watch_all, answered}
use Rattle.ante_window.proofs.reader.ask.Goals as goal

pub returns-clause-same : goal.returns-clause-same
returns-clause-same g c = (watch_all g.C.Clock.told c.read.ensures.0 _ _ c.read.ensures.1).0

pub returns-clause-watched : goal.returns-clause-watched
returns-clause-watched g c = (watch_all g.C.Clock.told c.read.ensures.0 _ _ c.read.ensures.1).1

pub returns-clause-going : goal.returns-clause-going
returns-clause-going g c = (watch_all g.C.Clock.told c.read.ensures.0 _ _ c.read.ensures.1).2

pub returns-clause-answer : goal.returns-clause-answer
returns-clause-answer g c = answered g.C.Clock.told _ _ _ _ c.read.ensures
