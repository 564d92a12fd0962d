-- The whole state of the chain, and who pays for what in it. Each map is the list of its entries in the order of their keys.
use Rattle.std.specs.Prelude.{ℕ, ◌+◌, ◌*◌, ◌==◌, ℤ, List, [], ◌∷◌, ◌++◌, length, if◌then◌else◌}
use Rattle.std.specs.List.{sum_by, flat_map}
use Rattle.ante_pack.specs.declared.names.Name.{Name}
use Rattle.ante_pack.specs.declared.names.TableKey.{TableKey}
use Rattle.ante_pack.specs.declared.names.Key256.{Key256}
use Rattle.ante_pack.specs.declared.authority.Level.{Level}
use Rattle.ante_pack.specs.Packed.{authority}
use Rattle.ante_state.specs.Billing.{account_size, code_factor, permission_size, link_size, table_size, row_size, index64_size, index128_size, index256_size}
use Rattle.ante_state.specs.declared.tables.RowKey.{RowKey}
use Rattle.ante_state.specs.declared.tables.TableRow.{TableRow}
use Rattle.ante_state.specs.declared.tables.PrimaryRow.{PrimaryRow}
use Rattle.ante_state.specs.declared.tables.IndexKey.{IndexKey}
use Rattle.ante_state.specs.declared.objects.AccountRow.{AccountRow}
use Rattle.ante_state.specs.declared.objects.PermissionRow.{PermissionRow}
use Rattle.ante_state.specs.declared.objects.LinkKey.{LinkKey}
use Rattle.ante_state.specs.declared.objects.RecentKey.{RecentKey}

pub record World : Type 0 where
  pub accounts : List (Name × AccountRow)
  pub permissions : List (Level × PermissionRow)
  -- the permission that an action of a contract asks for
  pub links : List (LinkKey × Name)
  -- the memory that an account may use: without an entry there is no limit
  pub quotas : List (Name × ℤ)
  -- transactions that were run and haven't expired
  pub recent : List (RecentKey × Unit {0})
  -- the id of the last block whose number has these low 16 bits
  pub references : List (ℕ × List ℕ)
  pub tables : List (TableKey × TableRow)
  pub rows : List (RowKey × PrimaryRow)
  -- the rows of secondary indexes by the bits of their keys, each with who pays for it
  pub index64 : List (IndexKey ℕ × Name)
  pub index128 : List (IndexKey ℕ × Name)
  pub index256 : List (IndexKey Key256 × Name)

-- An entry's bills: who pays, and the size.

abbrev pub account_bills : Name × AccountRow → List (Name × ℕ)
account_bills e = (e.1.payer, account_size) ∷ (e.0, code_factor * length e.1.code + length e.1.abi) ∷ []

abbrev pub permission_bills : Level × PermissionRow → List (Name × ℕ)
permission_bills e = (e.0.actor, permission_size + length (authority.spell e.1.authority)) ∷ []

abbrev pub link_bills : LinkKey × Name → List (Name × ℕ)
link_bills e = (e.0.account, link_size) ∷ []

abbrev pub table_bills : TableKey × TableRow → List (Name × ℕ)
table_bills e = (e.1.payer, table_size) ∷ []

abbrev pub row_bills : RowKey × PrimaryRow → List (Name × ℕ)
row_bills e = (e.1.payer, row_size + length e.1.bytes) ∷ []

abbrev pub index_bills : {K : Type 0} → ℕ → IndexKey K × Name → List (Name × ℕ)
index_bills size e = (e.1, size) ∷ []

-- all bills
abbrev pub bills : World → List (Name × ℕ)
bills w =
    flat_map account_bills w.accounts ++ flat_map permission_bills w.permissions ++ flat_map link_bills w.links
    ++ flat_map table_bills w.tables ++ flat_map row_bills w.rows
    ++ flat_map (index_bills index64_size) w.index64 ++ flat_map (index_bills index128_size) w.index128
    ++ flat_map (index_bills index256_size) w.index256

-- what one account pays of a bill
abbrev pub paid_by : Name → Name × ℕ → ℕ
paid_by account bill = if bill.0.0 == account.0 then bill.1 else 0

-- what one account uses, and what all use together
abbrev pub used : World → Name → ℕ
used w account = sum_by (paid_by account) (bills w)

abbrev pub used_by_all : World → ℕ
used_by_all w = sum_by (λ bill. bill.1) (bills w)
