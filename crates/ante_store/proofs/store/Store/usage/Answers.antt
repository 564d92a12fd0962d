use Rattle.ante_store.proofs.Throughout.{same_sessions, used_under, quotas_under}
use Rattle.ante_store.proofs.store.Store.usage.Goals as goal

pub returns-clause-sessions : goal.returns-clause-sessions
returns-clause-sessions c = rw (← c.self.view_is, ← c.self-inside.view_is, ← c.self-inside-inside.view_is, ← c.self-inside-inside-inside.view_is) (same_sessions _ _ c.self-inside-inside-inside.invariant)

pub returns-clause-used_under : goal.returns-clause-used_under
returns-clause-used_under c = rw (← c.self.view_is, ← c.self-inside.view_is, ← c.self-inside-inside.view_is, ← c.self-inside-inside-inside.view_is)
    (used_under _ _ c.self-inside-inside-inside.invariant (rw (← c.self-inside-inside.view_is, ← c.self-inside-inside-inside.view_is) at c.self-inside.invariant))

pub returns-clause-quotas_under : goal.returns-clause-quotas_under
returns-clause-quotas_under c = rw (← c.self.view_is, ← c.self-inside.view_is, ← c.self-inside-inside.view_is, ← c.self-inside-inside-inside.view_is) (quotas_under _ _ c.self-inside-inside-inside.invariant)
