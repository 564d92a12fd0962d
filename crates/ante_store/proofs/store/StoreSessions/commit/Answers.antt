use Rattle.std.proofs.Common.{◌∙◌, ap, arith}
use Rattle.ante_undo.specs.Stack.{committed}
use Rattle.ante_store.proofs.Later.{later_committed}
use Rattle.ante_store.proofs.store.StoreSessions.commit.Goals as goal

pub returns : goal.returns
returns c =
    rw (← c.self.view_is)
    (later_committed c.args.revision c.self.inside.kept c.commit.new.self (omega (arith, rw (← c.self.view_is) at c.is_numbered.ensures.1))
    (c.commit.ensures ∙ ap (λ r. committed r c.self.inside.kept) c.saturating_sub.ensures))
