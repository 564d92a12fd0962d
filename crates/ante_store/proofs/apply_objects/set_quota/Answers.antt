use Rattle.std.proofs.Common.{sym, ap, subst, ◌∙◌}
use Rattle.std.proofs.Math.Facts.{to_z-of_z}
use Rattle.std.specs.FinMap.Entries.{find}
use Rattle.ante_state.specs.Orders.{name_order}
use Rattle.ante_ram.specs.Usage.{used_of, with_share}
use Rattle.ante_store.specs.declared.change.Change.TheVariants as change
use Rattle.ante_store.specs.Applied.{with_usage, IsMade}
use Rattle.ante_store.proofs.QuotaChange.{quota_made}
use Rattle.ante_store.proofs.apply_objects.set_quota.Goals as goal

pub returns-in-Ok-clause-answers : goal.returns-in-Ok-clause-answers
returns-in-Ok-clause-answers c =
    subst (IsMade (change.SetQuota c.args.account c.args.quota) c.args.parts.now.top) (sym (ap (λ s. s.top) c.in-Ok.ensures.ok
    ∙ ap (λ quota. with_usage (with_share name_order c.args.account (used_of (find name_order c.args.account c.args.parts.now.top.usage)) quota c.args.parts.now.top.usage) c.args.parts.now.top) (to_z-of_z c.ranges.quota))) (quota_made c.args.account c.args.quota c.args.parts.now.top c.requires.billed)
