use Rattle.std.proofs.Common.{sym, subst}
use Rattle.ante_types.specs.World.{World}
use Rattle.ante_undo.specs.Stack.{Stack}
use Rattle.ante_execution.specs.Hosts.{HostView, sent_refusal}
use Rattle.ante_host.specs.Host.{Checked}
use Rattle.ante_host.specs.Sending.{Lets}
use Rattle.ante_host.proofs.host.RunHost.checked.Goals as goal

pub returns-in-Nothing : goal.returns-in-Nothing
returns-in-Nothing g c =
    subst (λ a. Checked c.args.self.now a c.sent.result) (sym c.in-Nothing.is)
    (subst (λ (h : HostView). Lets (sent_refusal h.seen) c.sent.result) c.self.view_is
    (subst (λ (s : Stack World). Lets (sent_refusal (record { world = s.top; lists = record { rows = c.self.inside.own.now.rows; index64 = c.self.inside.own.now.index64; index128 = c.self.inside.own.now.index128; index256 = c.self.inside.own.now.index256 }; run = c.self.inside.own.now.run; packed = c.self.inside.packed.now })) c.sent.result)
    c.store.ensures (c.sent.ensures (record { rows = c.self.inside.own.now.rows; index64 = c.self.inside.own.now.index64; index128 = c.self.inside.own.now.index128; index256 = c.self.inside.own.now.index256 }) c.self.inside.packed.now)))
