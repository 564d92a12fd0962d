-- The rows of a table as a list by primary key, in which neighbours are places.
use Rattle.std.specs.Prelude.{ℕ, ◌≤◌, List, [], ◌∷◌, Option, Some, None, if◌then◌else◌}
use Rattle.std.specs.declared.cmp.Ordering.{Ordering}
use Rattle.std.specs.Ordering.{eq_by_cmp}
use Rattle.std.specs.List.{AllByRecursion}
use Rattle.ante_pack.specs.declared.names.TableKey.{TableKey}
use Rattle.ante_undo.specs.Entries.{changed}
use Rattle.ante_state.specs.Orders.{table_order, row_order}
use Rattle.ante_state.specs.declared.tables.RowKey.{RowKey}
use Rattle.ante_state.specs.declared.tables.TableRow.{TableRow}
use Rattle.ante_state.specs.declared.tables.PrimaryRow.{PrimaryRow}
use Rattle.ante_rows.specs.declared.rows.RowsMap.{RowsMap}

module _ (tables : TableKey → TableKey → Ordering) where
  module _ {V : Type 0} where
    -- the rows of the table, in the order of their primary keys
    abbrev pub rows_of : TableKey → List (RowKey × V) → List (ℕ × V)
    rows_of table [] = []
    rows_of table (e ∷ es) = if eq_by_cmp tables e.0.table table then (e.0.primary, e.1) ∷ rows_of table es else rows_of table es

    -- an entry as a row of the table, if it is one
    abbrev pub in_table : TableKey → Option (RowKey × V) → Option (ℕ × V)
    in_table table None = None
    in_table table (Some e) = if eq_by_cmp tables e.0.table table then Some (e.0.primary, e.1) else None

-- the maps with a table object or a row put in or taken away
abbrev pub table_set : TableKey → Option TableRow → RowsMap → RowsMap
table_set table object m = record { tables = changed table_order m.tables table object; rows = m.rows }

abbrev pub row_set : TableKey → ℕ → Option PrimaryRow → RowsMap → RowsMap
row_set table primary row m = record { tables = m.tables; rows = changed row_order m.rows (record { table = table; primary = primary }) row }

-- the greatest primary key
abbrev pub greatest_key : ℕ
greatest_key = 18446744073709551615

-- primary keys have 64 bits
abbrev pub KeysFit : {T V : Type 0} → T × List (RowKey × V) → Type 0
KeysFit m = AllByRecursion (λ e. e.0.primary ≤ greatest_key) m.1
