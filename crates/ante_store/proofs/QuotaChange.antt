-- What a new quota makes of the parts: nothing is billed.
use Rattle.std.proofs.Common.{ℤ, refl, ap, arith}
use Rattle.std.specs.FinMap.Entries.{find}
use Rattle.ante_undo.proofs.Entries.{sorted_changed}
use Rattle.ante_pack.specs.declared.names.Name.{Name}
use Rattle.ante_state.specs.Orders.{name_order}
use Rattle.ante_ram.specs.Usage.{used_of, entry_of, with_share}
use Rattle.ante_ram.proofs.Sums.{sum_share}
use Rattle.ante_store.specs.declared.change.Change.TheVariants as change
use Rattle.ante_store.specs.declared.parts.Maps.{Maps}
use Rattle.ante_store.specs.Worlds.{world_of, IsBilled}
use Rattle.ante_store.specs.Applied.{with_usage, IsMade}
use Rattle.ante_store.proofs.KeyOrders.{names_total, names_exact}
use Rattle.ante_store.proofs.Made.{granted_by}
use Rattle.ante_store.proofs.Quotas.{quotas_share}
use Rattle.ante_store.proofs.Rebilled.{used_stands}

pub quota_made : (account : Name) (quota : ℤ) (old : Maps) → IsBilled old →
    IsMade (change.SetQuota account quota) old (with_usage (with_share name_order account (used_of (find name_order account old.usage)) quota old.usage) old)
quota_made account quota old is =
    let used = used_of (find name_order account old.usage) in
    let w = world_of old in
    record {
      granted = granted_by (change.SetQuota account quota) w refl refl (omega (arith, is.total, is.small));
      world = ap (λ quotas. record w { quotas = quotas }) (quotas_share name_order names_total names_exact account used quota old.usage is.shares);
      billed = record {
        kept = record { objects = is.kept.objects; rows = is.kept.rows };
        shares = sorted_changed name_order names_total old.usage account (entry_of used quota) is.shares;
        billed = λ a. omega (arith, is.billed a, used_stands names_total names_exact account quota old.usage a);
        total = omega (arith, is.total, sum_share name_order names_total account used quota old.usage is.shares);
        small = omega (arith, is.small, sum_share name_order names_total account used quota old.usage is.shares);
      };
    }
