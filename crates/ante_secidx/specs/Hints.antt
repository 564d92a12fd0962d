-- How the rows are found by primary key: a map tells under which secondary key to look. It may tell one where no row stands.
use Rattle.std.specs.Prelude.{◌≡◌, ℕ, ◌≤◌, T, List, Option, Some, None}
use Rattle.std.specs.declared.cmp.Ordering.{Ordering}
use Rattle.std.specs.List.{AllByRecursion}
use Rattle.std.specs.FinMap.Entries.{find, is_sorted}
use Rattle.ante_pack.specs.declared.names.TableKey.{TableKey}
use Rattle.ante_state.specs.Orders.{row_order, index_order}
use Rattle.ante_state.specs.declared.tables.RowKey.{RowKey}
use Rattle.ante_state.specs.declared.tables.IndexKey.{IndexKey}
use Rattle.ante_secidx.specs.Keys.{greatest_64}
use Rattle.ante_secidx.specs.Index.{Rows, row_key, index_row, row_under}

module _ {K : Type 0} (fits : K → Type 0) where
  -- the row's keys are within their bits
  abbrev pub FitsAt : IndexKey K → Type 0
  FitsAt row = fits row.key × (row.primary ≤ greatest_64)

  -- and the map tells its secondary key
  abbrev pub IsHinted : List (RowKey × K) → IndexKey K → Type 0
  IsHinted hints row = FitsAt row × (find row_order (row_key row) hints ≡ Some row.key)

  module _ (keys : K → K → Ordering) where
    pub record AreHinted (m : List (RowKey × K) × Rows K) : Type 0 where
      pub ordered : T (is_sorted (index_order keys) m.1)
      pub hinted : AllByRecursion (λ e. IsHinted m.0 e.0) m.1

module _ {K : Type 0} (keys : K → K → Ordering) where
  -- what is told of a row is where it stands, if it is there
  abbrev pub Tells : TableKey → ℕ → Rows K → Option K → Type 0
  Tells table primary m None = index_row table primary m ≡ None
  Tells table primary m (Some key) = index_row table primary m ≡ row_under keys table key primary m
