-- Where the changes of primary rows lead.
use Rattle.std.proofs.Common.{◌≡◌, ℕ, ◌+◌, ◌≤◌, false, List, [], ◌∷◌, ◌++◌, length, Some, None, is_some, refl, ap, arith}
use Rattle.std.specs.List.{sum_by}
use Rattle.std.specs.FinMap.Entries.{find}
use Rattle.std.proofs.lemmas.List.Sums.{sum_by-append}
use Rattle.ante_undo.specs.Entries.{changed}
use Rattle.ante_undo.proofs.Entries.{sorted_changed}
use Rattle.ante_pack.specs.declared.names.Name.{Name}
use Rattle.ante_pack.specs.declared.names.TableKey.{TableKey}
use Rattle.ante_state.specs.Billing.{row_size}
use Rattle.ante_state.specs.Orders.{table_order, row_order}
use Rattle.ante_state.specs.declared.tables.RowKey.{RowKey}
use Rattle.ante_state.specs.declared.tables.PrimaryRow.{PrimaryRow}
use Rattle.ante_types.specs.World.{table_bills, row_bills}
use Rattle.ante_secidx.specs.declared.indexes.IndexesMap.{IndexesMap}
use Rattle.ante_store.specs.declared.change.Change.TheVariants as change
use Rattle.ante_store.specs.declared.change.WriteError.TheVariants as error
use Rattle.ante_store.specs.Bills.{bills_at, opening_bills, closing_bills}
use Rattle.ante_store.specs.Changes.{with_row, without_row, count_of, new_row, standing_row, is_full}
use Rattle.ante_store.specs.declared.parts.Maps.{Maps}
use Rattle.ante_store.specs.Worlds.{world_of, rows_in, IsBilled}
use Rattle.ante_store.specs.Applied.{in_rows}
use Rattle.ante_store.proofs.Billed.{weighs, entry_rebills, entry_within}
use Rattle.ante_store.proofs.Counting.{one, here, here_itself, row_moves, row_within, counted_after, some_after, count_with, count_without, some_without, opened, closed}
use Rattle.ante_store.proofs.KeyOrders.{tables_total, tables_exact, rows_total, rows_exact}
use Rattle.ante_store.proofs.Made.{Leads}

-- how many rows a table has, with these primary rows
abbrev all_rows : List (RowKey × PrimaryRow) → IndexesMap → TableKey → ℕ
all_rows rows indexes table = rows_in table rows indexes.index64 indexes.index128 indexes.index256

pub store_leads : (table : TableKey) (primary : ℕ) (payer : Name) (bytes : List ℕ) (old : Maps) → IsBilled old →
    find row_order (record { table = table; primary = primary }) old.rows.rows ≡ None → is_full (change.StoreRow table primary payer bytes) (world_of old) ≡ false →
    Leads (change.StoreRow table primary payer bytes) [] (opening_bills (find table_order table old.rows.tables) payer ++ (payer, row_size + length bytes) ∷ []) old (in_rows (λ m. record {
      tables = changed table_order old.rows.tables table (Some (with_row (find table_order table old.rows.tables) payer));
      rows = changed row_order old.rows.rows (record { table = table; primary = primary }) (Some (record { payer = payer; bytes = bytes }));
    }) old)
store_leads table primary payer bytes old is absent room =
    let key : RowKey = record { table = table; primary = primary } in
    let row : PrimaryRow = record { payer = payer; bytes = bytes } in
    let tables = old.rows.tables in
    let rows = old.rows.rows in
    let object = find table_order table tables in
    let x : Maps = in_rows (λ m. record { tables = changed table_order tables table (Some (with_row object payer)); rows = changed row_order rows key (Some row) }) old in
    record {
      placed = ap (λ found. new_row (is_some found)) absent;
      room = room;
      usage = refl;
      world = refl;
      rebills = λ part. omega (
        arith,
        weighs part (world_of old),
        weighs part (world_of x),
        entry_rebills table_order tables_total tables_exact table_bills part tables table (Some (with_row object payer)) is.kept.rows.tables,
        opened part table object payer,
        entry_rebills row_order rows_total rows_exact row_bills part rows key (Some row) is.kept.rows.rows,
        ap (λ found. sum_by part (bills_at row_bills key found)) absent,
        sum_by-append part (opening_bills object payer) ((payer, row_size + length bytes) ∷ []),
      );
      within = λ part. omega arith;
      kept = record {
        objects = is.kept.objects;
        rows = record {
          tables = sorted_changed table_order tables_total tables table (Some (with_row object payer)) is.kept.rows.tables;
          rows = sorted_changed row_order rows_total rows key (Some row) is.kept.rows.rows;
          indexes = is.kept.rows.indexes;
          counted = counted_after tables table (Some (with_row object payer)) (all_rows rows old.indexes) (all_rows (changed row_order rows key (Some row)) old.indexes) (one (find row_order key rows)) 1
              is.kept.rows.counted (λ t. omega (arith, row_moves row_order rows_total rows_exact (λ k. k.table) rows key (Some row) is.kept.rows.rows t)) (omega (arith, ap one absent, count_with object payer));
          some = some_after tables table (Some (with_row object payer)) (omega (arith, count_with object payer)) is.kept.rows.some;
        };
      };
    }

pub update_leads : (table : TableKey) (primary : ℕ) (payer : Name) (bytes : List ℕ) (was : PrimaryRow) (old : Maps) → IsBilled old →
    find row_order (record { table = table; primary = primary }) old.rows.rows ≡ Some was →
    Leads (change.UpdateRow table primary payer bytes) ((was.payer, row_size + length was.bytes) ∷ []) ((payer, row_size + length bytes) ∷ []) old (in_rows (λ m. record {
      tables = old.rows.tables;
      rows = changed row_order old.rows.rows (record { table = table; primary = primary }) (Some (record { payer = payer; bytes = bytes }));
    }) old)
update_leads table primary payer bytes was old is there =
    let key : RowKey = record { table = table; primary = primary } in
    let row : PrimaryRow = record { payer = payer; bytes = bytes } in
    let rows = old.rows.rows in
    let x : Maps = in_rows (λ m. record { tables = old.rows.tables; rows = changed row_order rows key (Some row) }) old in
    record {
      placed = ap (λ found. standing_row (is_some found)) there;
      room = refl;
      usage = refl;
      world = refl;
      rebills = λ part. omega (
        arith,
        weighs part (world_of old),
        weighs part (world_of x),
        entry_rebills row_order rows_total rows_exact row_bills part rows key (Some row) is.kept.rows.rows,
        ap (λ found. sum_by part (bills_at row_bills key found)) there,
      );
      within = λ part. omega (
        arith,
        weighs part (world_of old),
        entry_within row_order rows_total rows_exact row_bills part rows key,
        ap (λ found. sum_by part (bills_at row_bills key found)) there,
      );
      kept = record {
        objects = is.kept.objects;
        rows = record {
          tables = is.kept.rows.tables;
          rows = sorted_changed row_order rows_total rows key (Some row) is.kept.rows.rows;
          indexes = is.kept.rows.indexes;
          counted = λ t. omega (
            arith,
            row_moves row_order rows_total rows_exact (λ k. k.table) rows key (Some row) is.kept.rows.rows t,
            ap (λ found. here table t (one found)) there,
            is.kept.rows.counted t,
          );
          some = is.kept.rows.some;
        };
      };
    }

pub remove_leads : (table : TableKey) (primary : ℕ) (was : PrimaryRow) (old : Maps) → IsBilled old →
    find row_order (record { table = table; primary = primary }) old.rows.rows ≡ Some was →
    Leads (change.RemoveRow table primary) (closing_bills (find table_order table old.rows.tables) ++ (was.payer, row_size + length was.bytes) ∷ []) [] old (in_rows (λ m. record {
      tables = changed table_order old.rows.tables table (without_row (find table_order table old.rows.tables));
      rows = changed row_order old.rows.rows (record { table = table; primary = primary }) None;
    }) old)
remove_leads table primary was old is there =
    let key : RowKey = record { table = table; primary = primary } in
    let tables = old.rows.tables in
    let rows = old.rows.rows in
    let object = find table_order table tables in
    let x : Maps = in_rows (λ m. record { tables = changed table_order tables table (without_row object); rows = changed row_order rows key None }) old in
    let has : 1 ≤ count_of object = omega (
      arith,
      row_within row_order rows_total rows_exact (λ k. k.table) rows key table,
      ap (λ found. here table table (one found)) there,
      here_itself table 1,
      is.kept.rows.counted table,
    ) in
    record {
      placed = ap (λ found. standing_row (is_some found)) there;
      room = refl;
      usage = refl;
      world = refl;
      rebills = λ part. omega (
        arith,
        weighs part (world_of old),
        weighs part (world_of x),
        entry_rebills table_order tables_total tables_exact table_bills part tables table (without_row object) is.kept.rows.tables,
        closed part table object,
        entry_rebills row_order rows_total rows_exact row_bills part rows key None is.kept.rows.rows,
        ap (λ found. sum_by part (bills_at row_bills key found)) there,
        sum_by-append part (closing_bills object) ((was.payer, row_size + length was.bytes) ∷ []),
      );
      within = λ part. omega (
        arith,
        weighs part (world_of old),
        entry_within table_order tables_total tables_exact table_bills part tables table,
        closed part table object,
        entry_within row_order rows_total rows_exact row_bills part rows key,
        ap (λ found. sum_by part (bills_at row_bills key found)) there,
        sum_by-append part (closing_bills object) ((was.payer, row_size + length was.bytes) ∷ []),
      );
      kept = record {
        objects = is.kept.objects;
        rows = record {
          tables = sorted_changed table_order tables_total tables table (without_row object) is.kept.rows.tables;
          rows = sorted_changed row_order rows_total rows key None is.kept.rows.rows;
          indexes = is.kept.rows.indexes;
          counted = counted_after tables table (without_row object) (all_rows rows old.indexes) (all_rows (changed row_order rows key None) old.indexes) (one (find row_order key rows)) 0
              is.kept.rows.counted (λ t. omega (arith, row_moves row_order rows_total rows_exact (λ k. k.table) rows key None is.kept.rows.rows t)) (omega (arith, ap one there, count_without object has));
          some = some_after tables table (without_row object) (some_without object) is.kept.rows.some;
        };
      };
    }
