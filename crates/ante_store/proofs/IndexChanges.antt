-- Where the changes of the rows of a secondary index lead, once over the width of its keys.
use Rattle.std.proofs.Common.{◌≡◌, ℕ, zero, ◌+◌, ◌≤◌, false, T, [], ◌∷◌, ◌++◌, Some, None, is_some, refl, sym, ap, subst, ◌∙◌, arith, Ordering}
use Rattle.std.specs.Ordering.{eq_by_cmp}
use Rattle.std.specs.List.{sum_by, flat_map}
use Rattle.std.specs.FinMap.Entries.{find, is_sorted}
use Rattle.std.proofs.lemmas.List.Sums.{sum_by-append}
use Rattle.ante_undo.specs.Entries.{changed}
use Rattle.ante_undo.proofs.Entries.{sorted_changed}
use Rattle.ante_pack.specs.declared.names.Name.{Name}
use Rattle.ante_pack.specs.declared.names.TableKey.{TableKey}
use Rattle.ante_state.specs.Orders.{table_order, index_order}
use Rattle.ante_state.specs.declared.tables.IndexKey.{IndexKey}
use Rattle.ante_types.specs.World.{table_bills, index_bills}
use Rattle.ante_rows.specs.Rows.{table_set}
use Rattle.ante_secidx.specs.Index.{Rows, index_key, index_row, with_index_row, without, without_index_row, moved}
use Rattle.ante_secidx.specs.declared.indexes.IndexesMap.{IndexesMap}
use Rattle.ante_store.specs.declared.change.Change.{Change}
use Rattle.ante_store.specs.Bills.{bills_at, opening_bills, closing_bills}
use Rattle.ante_store.specs.Changes.{with_row, without_row, count_of, new_row, standing_row, is_table_full}
use Rattle.ante_store.specs.declared.parts.Maps.{Maps}
use Rattle.ante_store.specs.Worlds.{world_of, primary_count, index_count, IsBilled}
use Rattle.ante_store.specs.Applied.{in_rows, in_indexes}
use Rattle.ante_store.specs.Widths.{indexes_count, IsSlot, AreChanges}
use Rattle.ante_store.proofs.Billed.{weighs, entry_rebills, entry_within}
use Rattle.ante_store.proofs.Counting.{either, one, here, here_itself, row_moves, row_within, counted_after, some_after, count_with, count_without, some_without, opened, closed}
use Rattle.ante_store.proofs.IndexRows.{found_table, found_stands, free_stands}
use Rattle.ante_store.proofs.KeyOrders.{tables_total, tables_exact}
use Rattle.ante_store.proofs.Made.{Leads}

-- how many rows a table has, with these rows of the indexes
abbrev all_rows : Maps → IndexesMap → TableKey → ℕ
all_rows m indexes table = primary_count table m.rows.rows + indexes_count table indexes

nothing_here : (table t : TableKey) → here table t 0 ≡ zero
nothing_here table t = either (eq_by_cmp table_order t table) 0

module _ {K : Type 0} (keys : K → K → Ordering) (size : ℕ) (got : IndexesMap → Rows K) (put : Rows K → IndexesMap → IndexesMap) where
  module _ (slot : IsSlot keys size got put) where
    -- the rows rise without the one that is taken away
    sorted_taken : (rows rows1 : Rows K) (place : IndexKey K) → rows1 ≡ changed (index_order keys) rows place None → T (is_sorted (index_order keys) rows) → T (is_sorted (index_order keys) rows1)
    sorted_taken rows rows1 place taken sorted = subst (λ m. T (is_sorted (index_order keys) m)) (sym taken) (sorted_changed (index_order keys) slot.total rows place None sorted)

    module _ (storing updating : TableKey → K → ℕ → Name → Change) (removing : TableKey → ℕ → Change) (are : AreChanges keys size got put storing updating removing) where
      pub index_store_leads : (table : TableKey) (key : K) (primary : ℕ) (payer : Name) (old : Maps) → IsBilled old →
          index_row table primary (got old.indexes) ≡ None → is_table_full table (world_of old) ≡ false →
          Leads (storing table key primary payer) [] (opening_bills (find table_order table old.rows.tables) payer ++ (payer, size) ∷ []) old
          (in_indexes (put (with_index_row keys table key primary payer (got old.indexes))) (in_rows (table_set table (Some (with_row (find table_order table old.rows.tables) payer))) old))
      index_store_leads table key primary payer old is absent room =
          let place : IndexKey K = index_key table key primary in
          let tables = old.rows.tables in
          let object = find table_order table tables in
          let rows = got old.indexes in
          let rows2 : Rows K = changed (index_order keys) rows place (Some payer) in
          let free = free_stands keys slot.total slot.exact table key primary rows absent in
          let sorted = slot.rises old.indexes is.kept.rows.indexes in
          let x : Maps = in_indexes (put rows2) (in_rows (table_set table (Some (with_row object payer))) old) in
          record {
            placed = are.stored_new table key primary payer old ∙ ap (λ found. new_row (is_some found)) absent;
            room = are.stored_fits table key primary payer old ∙ room;
            usage = refl;
            world = are.stored table key primary payer old;
            rebills = λ part. omega (
              arith,
              weighs part (world_of old),
              weighs part (world_of x),
              entry_rebills table_order tables_total tables_exact table_bills part tables table (Some (with_row object payer)) is.kept.rows.tables,
              opened part table object payer,
              slot.summed part rows2 old.indexes,
              entry_rebills (index_order keys) slot.total slot.exact (index_bills size) part rows place (Some payer) sorted,
              ap (λ found. sum_by part (bills_at (index_bills size) place found)) free,
              sum_by-append part (opening_bills object payer) ((payer, size) ∷ []),
            );
            within = λ part. omega arith;
            kept = record {
              objects = is.kept.objects;
              rows = record {
                tables = sorted_changed table_order tables_total tables table (Some (with_row object payer)) is.kept.rows.tables;
                rows = is.kept.rows.rows;
                indexes = slot.rise rows2 old.indexes (sorted_changed (index_order keys) slot.total rows place (Some payer) sorted) is.kept.rows.indexes;
                counted = counted_after tables table (Some (with_row object payer)) (all_rows old old.indexes) (all_rows old (put rows2 old.indexes)) (one (find (index_order keys) place rows)) 1
                    is.kept.rows.counted (λ t. omega (arith, slot.counted t rows2 old.indexes, row_moves (index_order keys) slot.total slot.exact (λ k. k.table) rows place (Some payer) sorted t))
                    (omega (arith, ap one free, count_with object payer));
                some = some_after tables table (Some (with_row object payer)) (omega (arith, count_with object payer)) is.kept.rows.some;
              };
            };
          }

      pub index_update_leads : (table : TableKey) (key : K) (primary : ℕ) (payer : Name) (was : IndexKey K × Name) (old : Maps) → IsBilled old →
          index_row table primary (got old.indexes) ≡ Some was → index_row table primary (without_index_row keys table primary (got old.indexes)) ≡ None →
          Leads (updating table key primary payer) ((was.1, size) ∷ []) ((payer, size) ∷ []) old (in_indexes (put (moved keys table key primary payer (got old.indexes))) old)
      index_update_leads table key primary payer was old is there single =
          let place : IndexKey K = index_key table key primary in
          let rows = got old.indexes in
          let rows1 : Rows K = without_index_row keys table primary rows in
          let rows2 : Rows K = changed (index_order keys) rows1 place (Some payer) in
          let taken : rows1 ≡ changed (index_order keys) rows was.0 None = ap (λ found. without keys found rows) there in
          let stands = found_stands keys slot.total slot.exact table primary rows was there in
          let its = found_table keys slot.total slot.exact table primary rows was there in
          let free = free_stands keys slot.total slot.exact table key primary rows1 single in
          let sorted = slot.rises old.indexes is.kept.rows.indexes in
          let sorted1 = sorted_taken rows rows1 was.0 taken sorted in
          let x : Maps = in_indexes (put rows2) old in
          record {
            placed = are.updated_standing table key primary payer old ∙ ap (λ found. standing_row (is_some found)) there;
            room = are.updated_fits table key primary payer old;
            usage = refl;
            world = are.updated table key primary payer old;
            rebills = λ part. omega (
              arith,
              weighs part (world_of old),
              weighs part (world_of x),
              slot.summed part rows2 old.indexes,
              entry_rebills (index_order keys) slot.total slot.exact (index_bills size) part rows was.0 None sorted,
              ap (λ m. sum_by part (flat_map (index_bills size) m)) taken,
              entry_rebills (index_order keys) slot.total slot.exact (index_bills size) part rows1 place (Some payer) sorted1,
              ap (λ found. sum_by part (bills_at (index_bills size) was.0 found)) stands,
              ap (λ found. sum_by part (bills_at (index_bills size) place found)) free,
            );
            within = λ part. omega (
              arith,
              weighs part (world_of old),
              slot.within part old.indexes,
              entry_within (index_order keys) slot.total slot.exact (index_bills size) part rows was.0,
              ap (λ found. sum_by part (bills_at (index_bills size) was.0 found)) stands,
            );
            kept = record {
              objects = is.kept.objects;
              rows = record {
                tables = is.kept.rows.tables;
                rows = is.kept.rows.rows;
                indexes = slot.rise rows2 old.indexes (sorted_changed (index_order keys) slot.total rows1 place (Some payer) sorted1) is.kept.rows.indexes;
                counted = λ t. omega (
                  arith,
                  slot.counted t rows2 old.indexes,
                  row_moves (index_order keys) slot.total slot.exact (λ k. k.table) rows was.0 None sorted t,
                  ap (index_count t) taken,
                  row_moves (index_order keys) slot.total slot.exact (λ k. k.table) rows1 place (Some payer) sorted1 t,
                  ap (λ found. here was.0.table t (one found)) stands,
                  ap (λ its. here its t 1) its,
                  ap (λ found. here table t (one found)) free,
                  nothing_here was.0.table t,
                  nothing_here table t,
                  is.kept.rows.counted t,
                );
                some = is.kept.rows.some;
              };
            };
          }

      pub index_remove_leads : (table : TableKey) (primary : ℕ) (was : IndexKey K × Name) (old : Maps) → IsBilled old → index_row table primary (got old.indexes) ≡ Some was →
          Leads (removing table primary) (closing_bills (find table_order table old.rows.tables) ++ (was.1, size) ∷ []) [] old
          (in_indexes (put (without_index_row keys table primary (got old.indexes))) (in_rows (table_set table (without_row (find table_order table old.rows.tables))) old))
      index_remove_leads table primary was old is there =
          let tables = old.rows.tables in
          let object = find table_order table tables in
          let rows = got old.indexes in
          let rows1 : Rows K = without_index_row keys table primary rows in
          let taken : rows1 ≡ changed (index_order keys) rows was.0 None = ap (λ found. without keys found rows) there in
          let stands = found_stands keys slot.total slot.exact table primary rows was there in
          let its = found_table keys slot.total slot.exact table primary rows was there in
          let sorted = slot.rises old.indexes is.kept.rows.indexes in
          let x : Maps = in_indexes (put rows1) (in_rows (table_set table (without_row object)) old) in
          let has : 1 ≤ count_of object = omega (
            arith,
            row_within (index_order keys) slot.total slot.exact (λ k. k.table) rows was.0 table,
            ap (λ found. here was.0.table table (one found)) stands,
            ap (λ its. here its table 1) its,
            here_itself table 1,
            slot.few table old.indexes,
            is.kept.rows.counted table,
          ) in
          record {
            placed = are.removed_standing table primary old ∙ ap (λ found. standing_row (is_some found)) there;
            room = are.removed_fits table primary old;
            usage = refl;
            world = are.removed table primary old;
            rebills = λ part. omega (
              arith,
              weighs part (world_of old),
              weighs part (world_of x),
              entry_rebills table_order tables_total tables_exact table_bills part tables table (without_row object) is.kept.rows.tables,
              closed part table object,
              slot.summed part rows1 old.indexes,
              entry_rebills (index_order keys) slot.total slot.exact (index_bills size) part rows was.0 None sorted,
              ap (λ m. sum_by part (flat_map (index_bills size) m)) taken,
              ap (λ found. sum_by part (bills_at (index_bills size) was.0 found)) stands,
              sum_by-append part (closing_bills object) ((was.1, size) ∷ []),
            );
            within = λ part. omega (
              arith,
              weighs part (world_of old),
              entry_within table_order tables_total tables_exact table_bills part tables table,
              closed part table object,
              slot.within part old.indexes,
              entry_within (index_order keys) slot.total slot.exact (index_bills size) part rows was.0,
              ap (λ found. sum_by part (bills_at (index_bills size) was.0 found)) stands,
              sum_by-append part (closing_bills object) ((was.1, size) ∷ []),
            );
            kept = record {
              objects = is.kept.objects;
              rows = record {
                tables = sorted_changed table_order tables_total tables table (without_row object) is.kept.rows.tables;
                rows = is.kept.rows.rows;
                indexes = slot.rise rows1 old.indexes (sorted_taken rows rows1 was.0 taken sorted) is.kept.rows.indexes;
                counted = counted_after tables table (without_row object) (all_rows old old.indexes) (all_rows old (put rows1 old.indexes)) 1 0
                    is.kept.rows.counted (λ t. omega (
                      arith,
                      slot.counted t rows1 old.indexes,
                      row_moves (index_order keys) slot.total slot.exact (λ k. k.table) rows was.0 None sorted t,
                      ap (index_count t) taken,
                      ap (λ found. here was.0.table t (one found)) stands,
                      ap (λ its. here its t 1) its,
                      nothing_here was.0.table t,
                      nothing_here table t,
                    )) (omega (arith, count_without object has));
                some = some_after tables table (without_row object) (some_without object) is.kept.rows.some;
              };
            };
          }
