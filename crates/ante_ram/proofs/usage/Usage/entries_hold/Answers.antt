use Rattle.ante_ram.proofs.usage.Usage.entries_hold.Goals as goal

pub returns-clause-counted : goal.returns-clause-counted
returns-clause-counted c = rw (← c.self.view_is, ← c.self-inside.view_is, ← c.self-inside-inside.view_is) (rw (← c.self-inside-inside.view_is) at c.self-inside.invariant.top.counted)

pub returns-clause-ordered : goal.returns-clause-ordered
returns-clause-ordered c = rw (← c.self.view_is, ← c.self-inside.view_is, ← c.self-inside-inside.view_is) (rw (← c.self-inside-inside.view_is) at c.self-inside.invariant.top.sorted)
