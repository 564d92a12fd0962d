use Rattle.ante_undo.proofs.Live.{rising_live}
use Rattle.ante_undo.proofs.layered.Layered.at_or_before.Goals as goal

pub returns-clause-ordered : goal.returns-clause-ordered
returns-clause-ordered g c = rw (← c.self.view_is) (rising_live g.K.Ord.cmp g.met.K.Ord.total c.self.inside.slots.entries c.self.invariant.ordered)
