-- What a width of secondary keys is to the store: where its rows stand among those of all widths, what each is billed, and which changes
-- are of it.
use Rattle.std.specs.Prelude.{◌≡◌, ℕ, ◌+◌, ◌≤◌, false, T, is_some, Some}
use Rattle.std.specs.declared.cmp.Ordering.{Ordering}
use Rattle.std.specs.Cmp.{IsTotalOrder}
use Rattle.std.specs.List.{sum_by, flat_map}
use Rattle.std.specs.FinMap.{IsAntisymmetric}
use Rattle.std.specs.FinMap.Entries.{find, is_sorted}
use Rattle.ante_pack.specs.declared.names.Name.{Name}
use Rattle.ante_pack.specs.declared.names.TableKey.{TableKey}
use Rattle.ante_state.specs.Billing.{index64_size, index128_size, index256_size}
use Rattle.ante_state.specs.Orders.{table_order, index_order}
use Rattle.ante_secidx.specs.Index.{Rows, index_row, with_index_row, without_index_row, moved}
use Rattle.ante_secidx.specs.declared.indexes.IndexesMap.{IndexesMap}
use Rattle.ante_types.specs.World.{index_bills}
use Rattle.ante_rows.specs.Rows.{table_set}
use Rattle.ante_store.specs.declared.change.Change.{Change}
use Rattle.ante_store.specs.declared.parts.Maps.{Maps}
use Rattle.ante_store.specs.Changes.{after, with_row, without_row, new_row, standing_row, is_table_full, misplaced, is_full}
use Rattle.ante_store.specs.Worlds.{world_of, index_count, IndexesRise}
use Rattle.ante_store.specs.Applied.{in_rows, in_indexes}

-- what is summed up of the bills of all index rows, and how many index rows a table has
abbrev pub indexes_sum : (Name × ℕ → ℕ) → IndexesMap → ℕ
indexes_sum part m =
    sum_by part (flat_map (index_bills index64_size) m.index64)
    + (sum_by part (flat_map (index_bills index128_size) m.index128) + sum_by part (flat_map (index_bills index256_size) m.index256))

abbrev pub indexes_count : TableKey → IndexesMap → ℕ
indexes_count table m = index_count table m.index64 + (index_count table m.index128 + index_count table m.index256)

module _ {K : Type 0} (keys : K → K → Ordering) (size : ℕ) (got : IndexesMap → Rows K) (put : Rows K → IndexesMap → IndexesMap) where
  -- its keys are ordered, and where its rows are put, the others stand
  pub record IsSlot : Type 0 where
    pub total : IsTotalOrder (index_order keys)
    pub exact : IsAntisymmetric (index_order keys)
    pub summed : (part : Name × ℕ → ℕ) (rows : Rows K) (m : IndexesMap) →
        indexes_sum part (put rows m) + sum_by part (flat_map (index_bills size) (got m)) ≡ indexes_sum part m + sum_by part (flat_map (index_bills size) rows)
    pub within : (part : Name × ℕ → ℕ) (m : IndexesMap) → sum_by part (flat_map (index_bills size) (got m)) ≤ indexes_sum part m
    pub counted : (table : TableKey) (rows : Rows K) (m : IndexesMap) →
        indexes_count table (put rows m) + index_count table (got m) ≡ indexes_count table m + index_count table rows
    pub few : (table : TableKey) (m : IndexesMap) → index_count table (got m) ≤ indexes_count table m
    pub rises : (m : IndexesMap) → IndexesRise m → T (is_sorted (index_order keys) (got m))
    pub rise : (rows : Rows K) (m : IndexesMap) → T (is_sorted (index_order keys) rows) → IndexesRise m → IndexesRise (put rows m)

  -- the changes of the store that are of this width
  module _ (storing updating : TableKey → K → ℕ → Name → Change) (removing : TableKey → ℕ → Change) where
    pub record AreChanges : Type 0 where
      pub stored : (table : TableKey) (key : K) (primary : ℕ) (payer : Name) (m : Maps) →
          world_of (in_indexes (put (with_index_row keys table key primary payer (got m.indexes)))
          (in_rows (table_set table (Some (with_row (find table_order table m.rows.tables) payer))) m)) ≡ after (storing table key primary payer) (world_of m)
      pub stored_new : (table : TableKey) (key : K) (primary : ℕ) (payer : Name) (m : Maps) →
          misplaced (storing table key primary payer) (world_of m) ≡ new_row (is_some (index_row table primary (got m.indexes)))
      pub stored_fits : (table : TableKey) (key : K) (primary : ℕ) (payer : Name) (m : Maps) →
          is_full (storing table key primary payer) (world_of m) ≡ is_table_full table (world_of m)
      pub updated : (table : TableKey) (key : K) (primary : ℕ) (payer : Name) (m : Maps) →
          world_of (in_indexes (put (moved keys table key primary payer (got m.indexes))) m) ≡ after (updating table key primary payer) (world_of m)
      pub updated_standing : (table : TableKey) (key : K) (primary : ℕ) (payer : Name) (m : Maps) →
          misplaced (updating table key primary payer) (world_of m) ≡ standing_row (is_some (index_row table primary (got m.indexes)))
      pub updated_fits : (table : TableKey) (key : K) (primary : ℕ) (payer : Name) (m : Maps) →
          is_full (updating table key primary payer) (world_of m) ≡ false
      pub removed : (table : TableKey) (primary : ℕ) (m : Maps) →
          world_of (in_indexes (put (without_index_row keys table primary (got m.indexes)))
          (in_rows (table_set table (without_row (find table_order table m.rows.tables))) m)) ≡ after (removing table primary) (world_of m)
      pub removed_standing : (table : TableKey) (primary : ℕ) (m : Maps) →
          misplaced (removing table primary) (world_of m) ≡ standing_row (is_some (index_row table primary (got m.indexes)))
      pub removed_fits : (table : TableKey) (primary : ℕ) (m : Maps) → is_full (removing table primary) (world_of m) ≡ false
