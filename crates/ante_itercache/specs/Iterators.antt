-- The iterators of a run: two numbered lists for each kind of row, the tables and the rows that the run has met. A row met has its place in
-- the list as its number; the k-th table met has the end iterator -(k + 2); -1 is no iterator.
use Rattle.std.specs.Prelude.{ℕ, zero, suc, ◌+◌, ◌==◌, Bool, true, false, ◌&&◌, ℤ, pos, negsuc, List, [], ◌∷◌, ◌++◌, length, take, position, slice_get, Option, None, Some, if◌then◌else◌}
use Rattle.std.specs.Ordering.{eq_by_cmp}
use Rattle.ante_pack.specs.declared.names.TableKey.{TableKey}
use Rattle.ante_state.specs.Orders.{table_order}
use Rattle.ante_itercache.specs.declared.met.MetRow.{MetRow}

-- a row that was met (`MetRow`) is live until it is removed
pub record Iterators : Type 0 where
  pub tables : List TableKey
  pub rows : List MetRow

abbrev pub no_iterators : Iterators
no_iterators = record { tables = []; rows = [] }

abbrev pub no_iterator : ℤ
no_iterator = negsuc 0

abbrev pub row_iterator : (place : ℕ) → ℤ
row_iterator place = pos place

abbrev pub end_iterator : (place : ℕ) → ℤ
end_iterator place = negsuc (place + 1)

-- ---- tables

abbrev pub is_table : TableKey → TableKey → Bool
is_table key met = eq_by_cmp table_order key met

abbrev pub table_met_at : Option ℕ → TableKey → Iterators → ℤ × Iterators
table_met_at (Some place) key i = (end_iterator place, i)
table_met_at None key i = (end_iterator (length i.tables), record { tables = i.tables ++ key ∷ []; rows = i.rows })

-- the table's end iterator, which it gets when it is first met
abbrev pub meet_table : TableKey → Iterators → ℤ × Iterators
meet_table key i = table_met_at (position (is_table key) i.tables) key i

-- the table that has this end iterator
abbrev pub end_table : ℤ → Iterators → Option TableKey
end_table (pos n) i = None
end_table (negsuc zero) i = None
end_table (negsuc (suc place)) i = slice_get i.tables place

-- ---- rows

abbrev pub is_row : TableKey → ℕ → MetRow → Bool
is_row key primary r = is_table key r.table && r.primary == primary && r.live

abbrev pub row_met_at : Option ℕ → TableKey → ℕ → Iterators → ℤ × Iterators
row_met_at (Some place) key primary i = (row_iterator place, i)
row_met_at None key primary i = (row_iterator (length i.rows), record { tables = i.tables; rows = i.rows ++ record { table = key; primary = primary; live = true } ∷ [] })

-- the row's number, which it gets when it is first met, and anew when it is met after it was removed
abbrev pub meet_row : TableKey → ℕ → Iterators → ℤ × Iterators
meet_row key primary i = row_met_at (position (is_row key primary) i.rows) key primary i

abbrev pub where_live : Option MetRow → Option (TableKey × ℕ)
where_live None = None
where_live (Some r) = if r.live then Some (r.table, r.primary) else None

-- the table and the primary key of the live row with this number
abbrev pub live_row : ℤ → Iterators → Option (TableKey × ℕ)
live_row (pos n) i = where_live (slice_get i.rows n)
live_row (negsuc n) i = None

-- the rows, of which the one at this place isn't live any more
abbrev pub dead_at : ℕ → List MetRow → List MetRow
dead_at n [] = []
dead_at zero (r ∷ rows) = record { table = r.table; primary = r.primary; live = false } ∷ rows
dead_at (suc n) (r ∷ rows) = r ∷ dead_at n rows

abbrev pub row_removed : ℤ → Iterators → Iterators
row_removed (pos n) i = record { tables = i.tables; rows = dead_at n i.rows }
row_removed (negsuc n) i = i

-- ---- taking back what was met last

abbrev pub first_met : (tables rows : ℕ) → Iterators → Iterators
first_met tables rows i = record { tables = take tables i.tables; rows = take rows i.rows }
