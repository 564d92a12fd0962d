-- The order of each kind of key: part by part, the first part first.
use Rattle.std.specs.Prelude.{ℕ}
use Rattle.std.specs.declared.cmp.Ordering.{Ordering}
use Rattle.std.specs.Ordering.{nat_cmp, ordering_then}
use Rattle.std.specs.Cmp.Lexicographic.{slice_cmp}
use Rattle.ante_pack.specs.declared.names.Name.{Name}
use Rattle.ante_pack.specs.declared.names.TableKey.{TableKey}
use Rattle.ante_pack.specs.declared.authority.Level.{Level}
use Rattle.ante_state.specs.declared.tables.RowKey.{RowKey}
use Rattle.ante_state.specs.declared.tables.IndexKey.{IndexKey}
use Rattle.ante_state.specs.declared.objects.LinkKey.{LinkKey}
use Rattle.ante_state.specs.declared.objects.RecentKey.{RecentKey}

-- names by their numbers
abbrev pub name_order : Name → Name → Ordering
name_order a b = nat_cmp a.0 b.0

-- by contract, then by scope, then by name
abbrev pub table_order : TableKey → TableKey → Ordering
table_order a b = ordering_then (name_order a.code b.code) (ordering_then (name_order a.scope b.scope) (name_order a.table b.table))

-- by table, then by primary key
abbrev pub row_order : RowKey → RowKey → Ordering
row_order a b = ordering_then (table_order a.table b.table) (nat_cmp a.primary b.primary)

module _ {K : Type 0} (keys : K → K → Ordering) where
  -- by secondary key, then by primary key
  abbrev pub pair_order : K × ℕ → K × ℕ → Ordering
  pair_order a b = ordering_then (keys a.0 b.0) (nat_cmp a.1 b.1)

  -- by table, then by secondary key, then by primary key
  abbrev pub index_order : IndexKey K → IndexKey K → Ordering
  index_order a b = ordering_then (table_order a.table b.table) (ordering_then (keys a.key b.key) (nat_cmp a.primary b.primary))

-- by account, then by permission
abbrev pub level_order : Level → Level → Ordering
level_order a b = ordering_then (name_order a.actor b.actor) (name_order a.permission b.permission)

-- by account, then by contract, then by action
abbrev pub link_order : LinkKey → LinkKey → Ordering
link_order a b = ordering_then (name_order a.account b.account) (ordering_then (name_order a.code b.code) (name_order a.action b.action))

-- by the moment of expiration, then by id, byte by byte
abbrev pub recent_order : RecentKey → RecentKey → Ordering
recent_order a b = ordering_then (nat_cmp a.expiration b.expiration) (slice_cmp nat_cmp a.id b.id)
