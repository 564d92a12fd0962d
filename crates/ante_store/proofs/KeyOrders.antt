-- Each order of keys is total, and keys that tie are one.
use Rattle.std.proofs.Common.{◌≡◌, refl, sym, ap, Ordering, Less, Equal, Greater}
use Rattle.std.specs.Ordering.{ordering_then}
use Rattle.std.specs.Cmp.{IsTotalOrder, nat_cmp_total, on_total, then_total, ranked}
use Rattle.std.specs.FinMap.{IsAntisymmetric}
use Rattle.std.specs.Cmp.Lexicographic.{nat_list_cmp_total}
use Rattle.ante_pack.specs.declared.names.Name.{Name}
use Rattle.ante_pack.specs.declared.names.TableKey.{TableKey}
use Rattle.ante_pack.specs.KeyOrder.{key256_order}
use Rattle.ante_pack.specs.declared.authority.Level.{Level}
use Rattle.ante_state.specs.Orders.{name_order, table_order, row_order, index_order, level_order, link_order, recent_order}
use Rattle.ante_state.specs.declared.tables.RowKey.{RowKey}
use Rattle.ante_state.specs.declared.tables.IndexKey.{IndexKey}
use Rattle.ante_state.specs.declared.objects.LinkKey.{LinkKey}

pub names_total : IsTotalOrder name_order
names_total = on_total (λ n. n.0) nat_cmp_total

pub tables_total : IsTotalOrder table_order
tables_total = then_total (on_total (λ t. t.code) names_total) (then_total (on_total (λ t. t.scope) names_total) (on_total (λ t. t.table) names_total))

pub rows_total : IsTotalOrder row_order
rows_total = then_total (on_total (λ r. r.table) tables_total) (on_total (λ r. r.primary) nat_cmp_total)

pub key256_total : IsTotalOrder key256_order
key256_total = then_total (on_total (λ k. k.first) nat_cmp_total) (on_total (λ k. k.second) nat_cmp_total)

pub index_total : {K : Type 0} (keys : K → K → Ordering) → IsTotalOrder keys → IsTotalOrder (index_order keys)
index_total keys total = then_total (on_total (λ r. r.table) tables_total) (then_total (on_total (λ r. r.key) total) (on_total (λ r. r.primary) nat_cmp_total))

pub levels_total : IsTotalOrder level_order
levels_total = then_total (on_total (λ l. l.actor) names_total) (on_total (λ l. l.permission) names_total)

pub links_total : IsTotalOrder link_order
links_total = then_total (on_total (λ l. l.account) names_total) (then_total (on_total (λ l. l.code) names_total) (on_total (λ l. l.action) names_total))

pub recent_total : IsTotalOrder recent_order
recent_total = then_total (on_total (λ r. r.expiration) nat_cmp_total) (on_total (λ r. r.id) nat_list_cmp_total)

both_equal : (r s : Ordering) → ordering_then r s ≡ Equal → (r ≡ Equal) × (s ≡ Equal)
both_equal Less s h = cc
both_equal Equal s h = (refl, h)
both_equal Greater s h = cc

pub names_exact : (a b : Name) → name_order a b ≡ Equal → a ≡ b
names_exact a b h = ap (λ n. record { 0 = n }) (ranked a.0 b.0 Equal (sym h))

pub tables_exact : (a b : TableKey) → table_order a b ≡ Equal → a ≡ b
tables_exact a b h =
    let p = both_equal _ _ h in
    let q = both_equal _ _ p.1 in
    λ i. record { code = names_exact a.code b.code p.0 i; scope = names_exact a.scope b.scope q.0 i; table = names_exact a.table b.table q.1 i }

pub rows_exact : (a b : RowKey) → row_order a b ≡ Equal → a ≡ b
rows_exact a b h = let p = both_equal _ _ h in λ i. record { table = tables_exact a.table b.table p.0 i; primary = ranked a.primary b.primary Equal (sym p.1) i }

pub index_exact : {K : Type 0} (keys : K → K → Ordering) → IsAntisymmetric keys → (a b : IndexKey K) → index_order keys a b ≡ Equal → a ≡ b
index_exact keys exact a b h =
    let p = both_equal _ _ h in
    let q = both_equal _ _ p.1 in
    λ i. record { table = tables_exact a.table b.table p.0 i; key = exact a.key b.key q.0 i; primary = ranked a.primary b.primary Equal (sym q.1) i }

pub levels_exact : (a b : Level) → level_order a b ≡ Equal → a ≡ b
levels_exact a b h = let p = both_equal _ _ h in λ i. record { actor = names_exact a.actor b.actor p.0 i; permission = names_exact a.permission b.permission p.1 i }

pub links_exact : (a b : LinkKey) → link_order a b ≡ Equal → a ≡ b
links_exact a b h =
    let p = both_equal _ _ h in
    let q = both_equal _ _ p.1 in
    λ i. record { account = names_exact a.account b.account p.0 i; code = names_exact a.code b.code q.0 i; action = names_exact a.action b.action q.1 i }
