-- The four kinds of rows of a table: primary rows, and the rows of the three secondary indexes. The calls on rows are written once over the
-- kind: P is the place of a row in the order of its kind, R the rest of it, V what is stored in it.
use Rattle.std.specs.Prelude.{ℕ, Bool, nat_lt, List, length, Option, Some}
use Rattle.std.specs.declared.cmp.Ordering.{Ordering}
use Rattle.std.specs.Ordering.{nat_cmp}
use Rattle.std.specs.FinMap.Entries.{find}
use Rattle.ante_pack.specs.declared.names.Name.{Name}
use Rattle.ante_pack.specs.declared.names.TableKey.{TableKey}
use Rattle.ante_state.specs.Orders.{table_order}
use Rattle.ante_state.specs.declared.tables.PrimaryRow.{PrimaryRow}
use Rattle.ante_types.specs.World.{World}
use Rattle.ante_rows.specs.Rows as tables
use Rattle.ante_store.specs.declared.change.Change.{Change}
use Rattle.ante_store.specs.declared.change.Change.TheVariants as change

pub record Kind (P R V : Type 0) : Type 0 where
  -- the rows of a table, in the order of their places
  pub rows : TableKey → World → List (P × R)
  pub order : P → P → Ordering
  pub primary : P → ℕ
  -- the row with this primary key, and where it stands
  pub row : TableKey → ℕ → World → Option R
  pub place : TableKey → ℕ → World → Option P
  pub payer : R → Name
  -- an update to this value is billed more than the row is
  pub grows : R → V → Bool
  -- the changes of the state that store, update and remove a row
  pub storing : TableKey → ℕ → Name → V → Change
  pub updating : TableKey → ℕ → Name → V → Change
  pub removing : TableKey → ℕ → Change

-- ---- primary rows

abbrev pub primary_rows : TableKey → World → List (ℕ × PrimaryRow)
primary_rows key w = tables.rows_of table_order key w.rows

-- They are in the order of their primary keys, so a row's primary key is its place.
abbrev pub primary_kind : Kind ℕ PrimaryRow (List ℕ)
primary_kind = record {
  rows = primary_rows;
  order = nat_cmp;
  primary = λ place. place;
  row = λ key primary w. find nat_cmp primary (primary_rows key w);
  place = λ key primary w. Some primary;
  payer = λ row. row.payer;
  grows = λ row bytes. nat_lt (length row.bytes) (length bytes);
  storing = λ key primary payer bytes. change.StoreRow key primary payer bytes;
  updating = λ key primary payer bytes. change.UpdateRow key primary payer bytes;
  removing = λ key primary. change.RemoveRow key primary;
}
