-- A quota as the world lists it, where -1 isn't listed.
use Rattle.std.proofs.Common.{◌≡◌, ℤ, negsuc, true, false, cond, T, List, Some, None, unwrap_or, refl, sym, ap, ◌∙◌}
use Rattle.std.specs.FinMap.Entries.{find, is_sorted}
use Rattle.std.specs.Ordering.{int_eq}
use Rattle.std.proofs.lemmas.Bool.Decides.{Decides-int_eq}
use Rattle.ante_pack.specs.declared.names.Name.{Name}
use Rattle.ante_state.specs.Orders.{name_order}
use Rattle.ante_types.specs.World.{World}
use Rattle.ante_ram.specs.declared.parts.Share.{Share}
use Rattle.ante_ram.specs.Usage.{quota_of}
use Rattle.ante_digest.specs.Digest.{quota}
use Rattle.ante_store.specs.Bills.{limit, quotas_of}
use Rattle.ante_store.proofs.KeyOrders.{names_total}
use Rattle.ante_store.proofs.Quotas.{find_quotas}

limited : (z : ℤ) → unwrap_or (limit z) (negsuc 0) ≡ z
limited z = elim (int_eq z (negsuc 0)) as (λ b. int_eq z (negsuc 0) ≡ b → unwrap_or (cond b None (Some z)) (negsuc 0) ≡ z) [
  | true ↦ λ p. sym ((Decides-int_eq z (negsuc 0)).0 p)
  | false ↦ λ p. refl
] refl

pub quota_is : (w : World) (account : Name) (shares : List (Name × Share)) → T (is_sorted name_order shares) → quotas_of shares ≡ w.quotas → quota_of (find name_order account shares) ≡ quota w account
quota_is w account shares sorted is =
    sym (limited (quota_of (find name_order account shares)))
    ∙ ap (λ o. unwrap_or o (negsuc 0)) (sym (find_quotas name_order names_total account shares sorted))
    ∙ ap (λ quotas. unwrap_or (find name_order account quotas) (negsuc 0)) is
