-- The rows of an index: for each table a list by secondary key and then by primary key, in which finding, bounds and
-- neighbours are places.
use Rattle.std.specs.Prelude.{ℕ, List, [], ◌∷◌, Option, Some, None, if◌then◌else◌}
use Rattle.std.specs.declared.cmp.Ordering.{Ordering}
use Rattle.std.specs.Ordering.{is_ge, is_gt, is_eq, eq_by_cmp}
use Rattle.std.specs.Option.{option_map}
use Rattle.std.specs.FinMap.Entries.{find}
use Rattle.ante_undo.specs.Entries.{changed, first_where}
use Rattle.ante_pack.specs.declared.names.Name.{Name}
use Rattle.ante_pack.specs.declared.names.TableKey.{TableKey}
use Rattle.ante_state.specs.Orders.{table_order, row_order, index_order}
use Rattle.ante_state.specs.declared.tables.RowKey.{RowKey}
use Rattle.ante_state.specs.declared.tables.IndexKey.{IndexKey}

-- the rows of all tables in their order, each with who pays for it
abbrev pub Rows : Type 0 → Type 0
Rows K = List (IndexKey K × Name)

module _ {K : Type 0} where
  abbrev pub index_key : TableKey → K → ℕ → IndexKey K
  index_key table key primary = record { table = table; key = key; primary = primary }

  -- the table and the primary key of a row
  abbrev pub row_key : IndexKey K → RowKey
  row_key row = record { table = row.table; primary = row.primary }

  -- a walk's place in the parts that calls take and give, and a row in such parts
  abbrev pub place_key : TableKey × K × ℕ → IndexKey K
  place_key place = index_key place.0 place.1 place.2

  abbrev pub shown_row : IndexKey K × Name → TableKey × K × ℕ × Name
  shown_row e = (e.0.table, e.0.key, e.0.primary, e.1)

  -- the rows of a table in their order, each as its secondary and its primary key
  abbrev pub index_of : TableKey → Rows K → List ((K × ℕ) × Name)
  index_of table [] = []
  index_of table (e ∷ es) =
      if eq_by_cmp table_order e.0.table table then ((e.0.key, e.0.primary), e.1) ∷ index_of table es else index_of table es

  -- its two keys
  abbrev pub pair_of : Option ((K × ℕ) × Name) → Option (K × ℕ)
  pair_of = option_map (λ e. e.0)

  -- a row as one of the table's, if it is one
  abbrev pub in_table : TableKey → Option (IndexKey K × Name) → Option ((K × ℕ) × Name)
  in_table table None = None
  in_table table (Some e) = if eq_by_cmp table_order e.0.table table then Some ((e.0.key, e.0.primary), e.1) else None

  -- the row of the table with the primary key
  abbrev pub index_row : TableKey → ℕ → Rows K → Option (IndexKey K × Name)
  index_row table primary = first_where (λ row. eq_by_cmp row_order (row_key row) (record { table = table; primary = primary }))

  -- a row with its secondary key and who pays for it, and the same of a table's list
  abbrev pub key_and_payer : IndexKey K × Name → K × Name
  key_and_payer e = (e.0.key, e.1)

  abbrev pub listed_key : (K × ℕ) × Name → K × Name
  listed_key e = (e.0.0, e.1)

module _ {K : Type 0} (keys : K → K → Ordering) where
  -- the first of a table's rows whose secondary key is at least the key, is above it, or is the key
  abbrev pub lower_bound : K → List ((K × ℕ) × Name) → Option ((K × ℕ) × Name)
  lower_bound key = first_where (λ pair. is_ge (keys pair.0 key))

  abbrev pub upper_bound : K → List ((K × ℕ) × Name) → Option ((K × ℕ) × Name)
  upper_bound key = first_where (λ pair. is_gt (keys pair.0 key))

  abbrev pub exact_match : K → List ((K × ℕ) × Name) → Option ((K × ℕ) × Name)
  exact_match key = first_where (λ pair. is_eq (keys pair.0 key))

  -- a row, if it has the secondary key
  abbrev pub only_at : K → Option (K × ℕ) → Option (K × ℕ)
  only_at key None = None
  only_at key (Some row) = if is_eq (keys row.0 key) then Some row else None

  -- the rows with one put in
  abbrev pub with_index_row : TableKey → K → ℕ → Name → Rows K → Rows K
  with_index_row table key primary payer m = changed (index_order keys) m (index_key table key primary) (Some payer)

  abbrev pub without : Option (IndexKey K × Name) → Rows K → Rows K
  without None m = m
  without (Some e) m = changed (index_order keys) m e.0 None

  -- the rows without the table's row with the primary key
  abbrev pub without_index_row : TableKey → ℕ → Rows K → Rows K
  without_index_row table primary m = without (index_row table primary m) m

  -- the rows with the table's row under another secondary key and with another payer
  abbrev pub moved : TableKey → K → ℕ → Name → Rows K → Rows K
  moved table key primary payer m = with_index_row table key primary payer (without_index_row table primary m)

  -- the row under the secondary key, if it is there
  abbrev pub row_under : TableKey → K → ℕ → Rows K → Option (IndexKey K × Name)
  row_under table key primary m =
      option_map (λ payer. (index_key table key primary, payer)) (find (index_order keys) (index_key table key primary) m)
