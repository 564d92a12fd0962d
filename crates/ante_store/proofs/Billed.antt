-- Which bills are removed and added where one entry of the world changes.
use Rattle.std.proofs.Common.{◌≡◌, ℕ, ◌+◌, ◌≤◌, T, List, ◌++◌, Option, Some, None, refl, sym, ap, arith, Ordering, Equal}
use Rattle.std.specs.Cmp.{IsTotalOrder}
use Rattle.std.specs.List.{sum_by, flat_map}
use Rattle.std.specs.FinMap.Entries.{find, is_sorted}
use Rattle.std.proofs.lemmas.List.Sums.{sum_by-append}
use Rattle.ante_undo.specs.Entries.{changed}
use Rattle.ante_sums.specs.Weights.{weight_at}
use Rattle.ante_sums.proofs.Changed.{weight_flat, weight_changed, weight_within}
use Rattle.ante_pack.specs.declared.names.Name.{Name}
use Rattle.ante_state.specs.Billing.{index64_size, index128_size, index256_size}
use Rattle.ante_types.specs.World.{World, account_bills, permission_bills, link_bills, table_bills, row_bills, index_bills, bills}
use Rattle.ante_store.specs.Bills.{bills_at}

-- a sum over all bills is one over the bills of each map
pub weighs : (part : Name × ℕ → ℕ) (w : World) → sum_by part (bills w) ≡
    sum_by part (flat_map account_bills w.accounts) + (sum_by part (flat_map permission_bills w.permissions) + (sum_by part (flat_map link_bills w.links)
    + (sum_by part (flat_map table_bills w.tables) + (sum_by part (flat_map row_bills w.rows) + (sum_by part (flat_map (index_bills index64_size) w.index64)
    + (sum_by part (flat_map (index_bills index128_size) w.index128) + sum_by part (flat_map (index_bills index256_size) w.index256)))))))
weighs part w =
    let accounts = flat_map account_bills w.accounts in
    let permissions = flat_map permission_bills w.permissions in
    let links = flat_map link_bills w.links in
    let tables = flat_map table_bills w.tables in
    let rows = flat_map row_bills w.rows in
    let index64 = flat_map (index_bills index64_size) w.index64 in
    let index128 = flat_map (index_bills index128_size) w.index128 in
    omega (
      arith,
      sum_by-append part accounts permissions,
      sum_by-append part (accounts ++ permissions) links,
      sum_by-append part (accounts ++ permissions ++ links) tables,
      sum_by-append part (accounts ++ permissions ++ links ++ tables) rows,
      sum_by-append part (accounts ++ permissions ++ links ++ tables ++ rows) index64,
      sum_by-append part (accounts ++ permissions ++ links ++ tables ++ rows ++ index64) index128,
      sum_by-append part (accounts ++ permissions ++ links ++ tables ++ rows ++ index64 ++ index128) (flat_map (index_bills index256_size) w.index256),
    )

module _ {K V : Type 0} (cmp : K → K → Ordering) (o : IsTotalOrder cmp) (exact : (a b : K) → cmp a b ≡ Equal → a ≡ b) (of_entry : K × V → List (Name × ℕ)) (part : Name × ℕ → ℕ) where
  weighed : (k : K) (v : Option V) → weight_at (λ e. sum_by part (of_entry e)) k v ≡ sum_by part (bills_at of_entry k v)
  weighed k None = refl
  weighed k (Some v) = refl

  alike : (k x : K) (v : V) → cmp k x ≡ Equal → sum_by part (of_entry (x, v)) ≡ sum_by part (of_entry (k, v))
  alike k x v p = ap (λ y. sum_by part (of_entry (y, v))) (sym (exact k x p))

  -- the bills of the old entry are removed, those of the new one are added
  pub entry_rebills : (es : List (K × V)) (k : K) (v : Option V) → T (is_sorted cmp es) →
      sum_by part (flat_map of_entry (changed cmp es k v)) + sum_by part (bills_at of_entry k (find cmp k es)) ≡ sum_by part (flat_map of_entry es) + sum_by part (bills_at of_entry k v)
  entry_rebills es k v h = omega (
    arith,
    weight_flat part of_entry (changed cmp es k v),
    weight_flat part of_entry es,
    weighed k (find cmp k es),
    weighed k v,
    weight_changed cmp (λ e. sum_by part (of_entry e)) alike o es k v h,
  )

  -- one entry's bills are a part of all
  pub entry_within : (es : List (K × V)) (k : K) → sum_by part (bills_at of_entry k (find cmp k es)) ≤ sum_by part (flat_map of_entry es)
  entry_within es k = omega (arith, weight_flat part of_entry es, weighed k (find cmp k es), weight_within cmp (λ e. sum_by part (of_entry e)) alike k es)
