-- What a change makes of the world, and when it is refused.
use Rattle.std.specs.Prelude.{◌≡◌, ℕ, ◌+◌, ◌-◌, Bool, false, ◌||◌, List, Option, Some, None, is_some, nat_le, nat_lt, if◌then◌else◌}
use Rattle.std.specs.Option.{option_or}
use Rattle.std.specs.Ordering.{nat_cmp}
use Rattle.std.specs.FinMap.Entries.{find}
use Rattle.ante_undo.specs.Entries.{changed}
use Rattle.ante_pack.specs.declared.names.Name.{Name}
use Rattle.ante_pack.specs.declared.names.TableKey.{TableKey}
use Rattle.ante_pack.specs.KeyOrder.{key256_order}
use Rattle.ante_state.specs.Billing.{most_usage, most_rows}
use Rattle.ante_state.specs.Orders.{name_order, table_order, row_order, level_order, link_order, recent_order}
use Rattle.ante_state.specs.declared.tables.RowKey.{RowKey}
use Rattle.ante_state.specs.declared.tables.TableRow.{TableRow}
use Rattle.ante_state.specs.declared.tables.PrimaryRow.{PrimaryRow}
use Rattle.ante_secidx.specs.Index.{index_row, with_index_row, without_index_row, moved}
use Rattle.ante_types.specs.World.{World, used_by_all}
use Rattle.ante_store.specs.declared.change.Change.{Change}
use Rattle.ante_store.specs.declared.change.Change.TheVariants as change
use Rattle.ante_store.specs.declared.change.WriteError.{WriteError}
use Rattle.ante_store.specs.declared.change.WriteError.TheVariants as error
use Rattle.ante_store.specs.Bills.{limit}

-- ---- tables and their rows

-- the table object with one row more, which the first row's payer pays for
abbrev pub with_row : Option TableRow → Name → TableRow
with_row None payer = record { payer = payer; count = 1 }
with_row (Some table) payer = record { payer = table.payer; count = table.count + 1 }

-- with one row less: it goes with the last one
abbrev pub without_row : Option TableRow → Option TableRow
without_row None = None
without_row (Some table) = if nat_le table.count 1 then None else Some (record { payer = table.payer; count = table.count - 1 })

abbrev pub count_of : Option TableRow → ℕ
count_of None = 0
count_of (Some table) = table.count

abbrev pub row_at : TableKey → ℕ → World → Option PrimaryRow
row_at table primary w = find row_order (record { table = table; primary = primary }) w.rows

-- a row of any kind comes to the table, or one goes
abbrev pub row_comes : TableKey → Name → World → World
row_comes table payer w = record w { tables = changed table_order w.tables table (Some (with_row (find table_order table w.tables) payer)) }

abbrev pub row_goes : TableKey → World → World
row_goes table w = record w { tables = changed table_order w.tables table (without_row (find table_order table w.tables)) }

abbrev pub set_row : TableKey → ℕ → Option PrimaryRow → World → List (RowKey × PrimaryRow)
set_row table primary row w = changed row_order w.rows (record { table = table; primary = primary }) row

-- ---- changes

abbrev pub after : Change → World → World
after (change.StoreRow table primary payer bytes) w =
    record (row_comes table payer w) { rows = set_row table primary (Some (record { payer = payer; bytes = bytes })) w }
after (change.UpdateRow table primary payer bytes) w = record w { rows = set_row table primary (Some (record { payer = payer; bytes = bytes })) w }
after (change.RemoveRow table primary) w = record (row_goes table w) { rows = set_row table primary None w }
after (change.StoreIndex64 table key primary payer) w =
    record (row_comes table payer w) { index64 = with_index_row nat_cmp table key primary payer w.index64 }
after (change.UpdateIndex64 table key primary payer) w = record w { index64 = moved nat_cmp table key primary payer w.index64 }
after (change.RemoveIndex64 table primary) w = record (row_goes table w) { index64 = without_index_row nat_cmp table primary w.index64 }
after (change.StoreIndex128 table key primary payer) w =
    record (row_comes table payer w) { index128 = with_index_row nat_cmp table key primary payer w.index128 }
after (change.UpdateIndex128 table key primary payer) w = record w { index128 = moved nat_cmp table key primary payer w.index128 }
after (change.RemoveIndex128 table primary) w = record (row_goes table w) { index128 = without_index_row nat_cmp table primary w.index128 }
after (change.StoreIndex256 table key primary payer) w =
    record (row_comes table payer w) { index256 = with_index_row key256_order table key primary payer w.index256 }
after (change.UpdateIndex256 table key primary payer) w = record w { index256 = moved key256_order table key primary payer w.index256 }
after (change.RemoveIndex256 table primary) w = record (row_goes table w) { index256 = without_index_row key256_order table primary w.index256 }
after (change.SetAccount name row) w = record w { accounts = changed name_order w.accounts name (Some row) }
after (change.SetPermission level row) w = record w { permissions = changed level_order w.permissions level row }
after (change.SetLink account code action requirement) w =
    record w { links = changed link_order w.links (record { account = account; code = code; action = action }) requirement }
after (change.SetQuota account quota) w = record w { quotas = changed name_order w.quotas account (limit quota) }
after (change.SetRecent expiration id there) w =
    record w { recent = changed recent_order w.recent (record { expiration = expiration; id = id }) (if there then Some tt else None) }
after (change.SetReference low id) w = record w { references = changed nat_cmp w.references low (Some id) }

-- ---- refusals

-- a new row must not be there yet, and another must be
abbrev pub new_row : (there : Bool) → Option WriteError
new_row there = if there then Some error.Exists else None

abbrev pub standing_row : (there : Bool) → Option WriteError
standing_row there = if there then None else Some error.Missing

-- the row is there already, or isn't there
abbrev pub misplaced : Change → World → Option WriteError
misplaced (change.StoreRow table primary payer bytes) w = new_row (is_some (row_at table primary w))
misplaced (change.UpdateRow table primary payer bytes) w = standing_row (is_some (row_at table primary w))
misplaced (change.RemoveRow table primary) w = standing_row (is_some (row_at table primary w))
misplaced (change.StoreIndex64 table key primary payer) w = new_row (is_some (index_row table primary w.index64))
misplaced (change.UpdateIndex64 table key primary payer) w = standing_row (is_some (index_row table primary w.index64))
misplaced (change.RemoveIndex64 table primary) w = standing_row (is_some (index_row table primary w.index64))
misplaced (change.StoreIndex128 table key primary payer) w = new_row (is_some (index_row table primary w.index128))
misplaced (change.UpdateIndex128 table key primary payer) w = standing_row (is_some (index_row table primary w.index128))
misplaced (change.RemoveIndex128 table primary) w = standing_row (is_some (index_row table primary w.index128))
misplaced (change.StoreIndex256 table key primary payer) w = new_row (is_some (index_row table primary w.index256))
misplaced (change.UpdateIndex256 table key primary payer) w = standing_row (is_some (index_row table primary w.index256))
misplaced (change.RemoveIndex256 table primary) w = standing_row (is_some (index_row table primary w.index256))
misplaced (change.SetAccount name row) w = None
misplaced (change.SetPermission level row) w = None
misplaced (change.SetLink account code action requirement) w = None
misplaced (change.SetQuota account quota) w = None
misplaced (change.SetRecent expiration id there) w = None
misplaced (change.SetReference low id) w = None

-- the table has as many rows as it may
abbrev pub is_table_full : TableKey → World → Bool
is_table_full table w = nat_le most_rows (count_of (find table_order table w.tables))

-- one table would have too many rows
abbrev pub is_full : Change → World → Bool
is_full (change.StoreRow table primary payer bytes) w = is_table_full table w
is_full (change.UpdateRow table primary payer bytes) w = false
is_full (change.RemoveRow table primary) w = false
is_full (change.StoreIndex64 table key primary payer) w = is_table_full table w
is_full (change.UpdateIndex64 table key primary payer) w = false
is_full (change.RemoveIndex64 table primary) w = false
is_full (change.StoreIndex128 table key primary payer) w = is_table_full table w
is_full (change.UpdateIndex128 table key primary payer) w = false
is_full (change.RemoveIndex128 table primary) w = false
is_full (change.StoreIndex256 table key primary payer) w = is_table_full table w
is_full (change.UpdateIndex256 table key primary payer) w = false
is_full (change.RemoveIndex256 table primary) w = false
is_full (change.SetAccount name row) w = false
is_full (change.SetPermission level row) w = false
is_full (change.SetLink account code action requirement) w = false
is_full (change.SetQuota account quota) w = false
is_full (change.SetRecent expiration id there) w = false
is_full (change.SetReference low id) w = false

-- all accounts together would use too much
abbrev pub is_too_much : Change → World → Bool
is_too_much c w = nat_lt most_usage (used_by_all (after c w))

-- why the change can't be made, if there is a reason: where its row stands comes first
abbrev pub refusal : Change → World → Option WriteError
refusal c w = option_or (misplaced c w) (if is_full c w || is_too_much c w then Some error.RamTotal else None)

-- an error is want of memory, or says why the change can't be made
abbrev pub IsCause : Change → World → WriteError → Type 0
IsCause c w error.OutOfMemory = Unit {0}
IsCause c w error.WriteRefused = ⊥
IsCause c w error.RamTotal = refusal c w ≡ Some error.RamTotal
IsCause c w error.Missing = refusal c w ≡ Some error.Missing
IsCause c w error.Exists = refusal c w ≡ Some error.Exists
