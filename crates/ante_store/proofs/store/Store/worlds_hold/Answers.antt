use Rattle.ante_store.proofs.Throughout.{worlds_hold}
use Rattle.ante_store.proofs.store.Store.worlds_hold.Goals as goal

pub returns : goal.returns
returns c = rw (← c.self.view_is, ← c.self-inside.view_is) (worlds_hold _ c.self-inside.invariant)
