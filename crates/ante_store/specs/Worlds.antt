-- The world that rows, objects and usage stand for together, and the rule that they keep.
use Rattle.std.specs.Prelude.{◌≡◌, ℕ, ◌+◌, ◌<◌, ◌≤◌, ◌^◌, T, List, [], IfSome, if◌then◌else◌}
use Rattle.std.specs.Ordering.{nat_cmp, eq_by_cmp}
use Rattle.std.specs.FinMap.Entries.{find, is_sorted}
use Rattle.ante_sums.specs.Weights.{weight_of}
use Rattle.ante_pack.specs.declared.names.Name.{Name}
use Rattle.ante_pack.specs.declared.names.TableKey.{TableKey}
use Rattle.ante_pack.specs.declared.names.Key256.{Key256}
use Rattle.ante_pack.specs.KeyOrder.{key256_order}
use Rattle.ante_state.specs.Billing.{most_usage}
use Rattle.ante_state.specs.Orders.{name_order, table_order, row_order, index_order, level_order, link_order, recent_order}
use Rattle.ante_state.specs.declared.tables.RowKey.{RowKey}
use Rattle.ante_state.specs.declared.tables.IndexKey.{IndexKey}
use Rattle.ante_state.specs.declared.tables.PrimaryRow.{PrimaryRow}
use Rattle.ante_types.specs.World.{World, used, used_by_all}
use Rattle.ante_ram.specs.Usage.{used_of, usage_sum}
use Rattle.ante_rows.specs.declared.rows.RowsMap.{RowsMap}
use Rattle.ante_secidx.specs.Index.{Rows}
use Rattle.ante_secidx.specs.declared.indexes.IndexesMap.{IndexesMap}
use Rattle.ante_objects.specs.declared.objects.ObjectsMap.{ObjectsMap}
use Rattle.ante_store.specs.declared.parts.Maps.{Maps}
use Rattle.ante_store.specs.Bills.{quotas_of}
use Rattle.ante_store.specs.Changes.{count_of}

-- usage is left out: it is what the rest is billed
abbrev pub world_of : Maps → World
world_of m = record {
  accounts = m.objects.accounts;
  permissions = m.objects.permissions;
  links = m.objects.links;
  quotas = quotas_of m.usage;
  recent = m.objects.recent;
  references = m.objects.references;
  tables = m.rows.tables;
  rows = m.rows.rows;
  index64 = m.indexes.index64;
  index128 = m.indexes.index128;
  index256 = m.indexes.index256;
}

-- one, where the row is of the table
abbrev pub of_table : {K V : Type 0} → (K → TableKey) → TableKey → K × V → ℕ
of_table its_table table e = if eq_by_cmp table_order (its_table e.0) table then 1 else 0

-- how many primary rows the table has, and how many rows of one secondary index
abbrev pub primary_count : TableKey → List (RowKey × PrimaryRow) → ℕ
primary_count table rows = weight_of (of_table (λ row. row.table) table) rows

abbrev pub index_count : {K : Type 0} → TableKey → Rows K → ℕ
index_count table rows = weight_of (of_table (λ row. row.table) table) rows

-- how many rows the table has, of all kinds
abbrev pub rows_in : TableKey → List (RowKey × PrimaryRow) → (index64 index128 : Rows ℕ) → (index256 : Rows Key256) → ℕ
rows_in table rows index64 index128 index256 =
    primary_count table rows + (index_count table index64 + (index_count table index128 + index_count table index256))

-- What a world is. Its keys rise strictly, all accounts together use at most 2^62 bytes, and a table is there exactly where it has a
-- row of any kind: its count is the number of its rows, which is 0 where it isn't there and never where it is.
pub record IsWorld (w : World) : Type 0 where
  pub accounts : T (is_sorted name_order w.accounts)
  pub permissions : T (is_sorted level_order w.permissions)
  pub links : T (is_sorted link_order w.links)
  pub quotas : T (is_sorted name_order w.quotas)
  pub recent : T (is_sorted recent_order w.recent)
  pub references : T (is_sorted nat_cmp w.references)
  pub tables : T (is_sorted table_order w.tables)
  pub rows : T (is_sorted row_order w.rows)
  pub index64 : T (is_sorted (index_order nat_cmp) w.index64)
  pub index128 : T (is_sorted (index_order nat_cmp) w.index128)
  pub index256 : T (is_sorted (index_order key256_order) w.index256)
  pub small : used_by_all w ≤ most_usage
  pub counted : (table : TableKey) → rows_in table w.rows w.index64 w.index128 w.index256 ≡ count_of (find table_order table w.tables)
  pub some : (table : TableKey) → IfSome (find table_order table w.tables) (λ t. 0 < t.count)

-- What the store keeps of its maps: keys rise ..
pub record ObjectsRise (m : ObjectsMap) : Type 0 where
  pub accounts : T (is_sorted name_order m.accounts)
  pub permissions : T (is_sorted level_order m.permissions)
  pub links : T (is_sorted link_order m.links)
  pub recent : T (is_sorted recent_order m.recent)
  pub references : T (is_sorted nat_cmp m.references)

pub record IndexesRise (m : IndexesMap) : Type 0 where
  pub index64 : T (is_sorted (index_order nat_cmp) m.index64)
  pub index128 : T (is_sorted (index_order nat_cmp) m.index128)
  pub index256 : T (is_sorted (index_order key256_order) m.index256)

-- .. and a table counts its rows and has one at least
pub record RowsCounted (m : RowsMap) (n : IndexesMap) : Type 0 where
  pub tables : T (is_sorted table_order m.tables)
  pub rows : T (is_sorted row_order m.rows)
  pub indexes : IndexesRise n
  pub counted : (table : TableKey) → rows_in table m.rows n.index64 n.index128 n.index256 ≡ count_of (find table_order table m.tables)
  pub some : (table : TableKey) → IfSome (find table_order table m.tables) (λ t. 0 < t.count)

-- the maps beside usage
pub record IsKept (m : Maps) : Type 0 where
  pub objects : ObjectsRise m.objects
  pub rows : RowsCounted m.rows m.indexes

-- and usage is what is billed
pub record IsBilled (m : Maps) : Type 0 where
  pub kept : IsKept m
  pub shares : T (is_sorted name_order m.usage)
  pub billed : (account : Name) → used (world_of m) account ≡ used_of (find name_order account m.usage)
  pub total : used_by_all (world_of m) ≡ usage_sum m.usage
  pub small : usage_sum m.usage ≤ most_usage

-- no account, no table, nothing
abbrev pub no_world : World
no_world = record {
  accounts = [];
  permissions = [];
  links = [];
  quotas = [];
  recent = [];
  references = [];
  tables = [];
  rows = [];
  index64 = [];
  index128 = [];
  index256 = [];
}
