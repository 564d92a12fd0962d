-- The digest of the state: the SHA-256 of its lists, one after the other, each in the order of its keys.
use Rattle.std.specs.Prelude.{ℕ, ℤ, negsuc, List, [], ◌∷◌, ◌++◌, map}
use Rattle.std.specs.Option.{unwrap_or}
use Rattle.std.specs.FinMap.Entries.{find}
use Rattle.sha2.specs.Sha256.{sha256}
use Rattle.ante_undo.specs.Entries.{changed}
use Rattle.ante_pack.specs.declared.names.Name.{Name}
use Rattle.ante_pack.specs.declared.names.TableKey.{TableKey}
use Rattle.ante_pack.specs.declared.names.Key256.{Key256}
use Rattle.ante_pack.specs.declared.authority.Level.{Level}
use Rattle.ante_pack.specs.Packed.{u64}
use Rattle.ante_state.specs.Orders.{name_order}
use Rattle.ante_state.specs.declared.tables.RowKey.{RowKey}
use Rattle.ante_state.specs.declared.tables.TableRow.{TableRow}
use Rattle.ante_state.specs.declared.tables.PrimaryRow.{PrimaryRow}
use Rattle.ante_state.specs.declared.tables.IndexKey.{IndexKey}
use Rattle.ante_state.specs.declared.objects.AccountRow.{AccountRow}
use Rattle.ante_state.specs.declared.objects.PermissionRow.{PermissionRow}
use Rattle.ante_state.specs.declared.objects.LinkKey.{LinkKey}
use Rattle.ante_state.specs.declared.objects.RecentKey.{RecentKey}
use Rattle.ante_types.specs.World.{World, bills, used}
use Rattle.ante_ram.specs.declared.parts.Share.{Share}
use Rattle.ante_ram.specs.Usage.{entry_of}
use Rattle.ante_objects.specs.declared.objects.ObjectsMap.{ObjectsMap}
use Rattle.ante_rows.specs.declared.rows.RowsMap.{RowsMap}
use Rattle.ante_secidx.specs.declared.indexes.IndexesMap.{IndexesMap}
use Rattle.ante_digest.specs.Entries.{counted, packed_account, packed_permission, packed_link, packed_share}
use Rattle.ante_digest.specs.Entries.{packed_recent, packed_reference, packed_table, packed_row}
use Rattle.ante_digest.specs.Entries.{packed_index_row, packed_key128, packed_key256}

-- what an account may use: -1, which is no quota, where it has no entry
abbrev pub quota : World → Name → ℤ
quota w account = unwrap_or (find name_order account w.quotas) (negsuc 0)

-- what each of these accounts uses and may use, but for those that use nothing and have no quota
abbrev pub shares : World → List Name → List (Name × Share)
shares w [] = []
shares w (account ∷ accounts) = changed name_order (shares w accounts) account (entry_of (used w account) (quota w account))

-- an account that no bill and no quota names uses nothing and has no quota
abbrev pub usage_of : World → List (Name × Share)
usage_of w = shares w (map (λ bill. bill.0) (bills w) ++ map (λ e. e.0) w.quotas)

-- the lists of the digest
pub record Lists : Type 0 where
  pub accounts : List (Name × AccountRow)
  pub permissions : List (Level × PermissionRow)
  pub links : List (LinkKey × Name)
  pub usage : List (Name × Share)
  pub recent : List (RecentKey × Unit {0})
  pub references : List (ℕ × List ℕ)
  pub tables : List (TableKey × TableRow)
  pub rows : List (RowKey × PrimaryRow)
  pub index64 : List (IndexKey ℕ × Name)
  pub index128 : List (IndexKey ℕ × Name)
  pub index256 : List (IndexKey Key256 × Name)

-- the first four lists, of who is there and what they use
abbrev pub packed_holders : List (Name × AccountRow) → List (Level × PermissionRow) → List (LinkKey × Name) → List (Name × Share) → List ℕ
packed_holders accounts permissions links usage =
    counted packed_account accounts ++ counted packed_permission permissions ++ counted packed_link links ++ counted packed_share usage

-- the next four, of what has been and what contracts keep
abbrev pub packed_history : List (RecentKey × Unit {0}) → List (ℕ × List ℕ) → List (TableKey × TableRow) → List (RowKey × PrimaryRow) → List ℕ
packed_history recent references tables rows =
    counted packed_recent recent ++ counted packed_reference references ++ counted packed_table tables ++ counted packed_row rows

-- and the last three, of the rows of secondary indexes
abbrev pub packed_indexes : List (IndexKey ℕ × Name) → List (IndexKey ℕ × Name) → List (IndexKey Key256 × Name) → List ℕ
packed_indexes index64 index128 index256 =
    counted (packed_index_row u64.spell) index64 ++ counted (packed_index_row packed_key128) index128 ++ counted (packed_index_row packed_key256) index256

abbrev pub packed_lists : Lists → List ℕ
packed_lists s =
    packed_holders s.accounts s.permissions s.links s.usage ++ packed_history s.recent s.references s.tables s.rows
    ++ packed_indexes s.index64 s.index128 s.index256

-- the lists of the parts that a state is kept in
abbrev pub lists_in : ObjectsMap → List (Name × Share) → RowsMap → IndexesMap → Lists
lists_in objects usage rows indexes = record {
  accounts = objects.accounts;
  permissions = objects.permissions;
  links = objects.links;
  usage = usage;
  recent = objects.recent;
  references = objects.references;
  tables = rows.tables;
  rows = rows.rows;
  index64 = indexes.index64;
  index128 = indexes.index128;
  index256 = indexes.index256;
}

abbrev pub lists_of : World → Lists
lists_of w = record {
  accounts = w.accounts;
  permissions = w.permissions;
  links = w.links;
  usage = usage_of w;
  recent = w.recent;
  references = w.references;
  tables = w.tables;
  rows = w.rows;
  index64 = w.index64;
  index128 = w.index128;
  index256 = w.index256;
}

unfoldable pub state_digest : World → List ℕ
state_digest w = sha256 (packed_lists (lists_of w))
