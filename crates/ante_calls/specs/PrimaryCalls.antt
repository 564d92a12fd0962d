-- The calls on primary rows, by their names as imports. A call on the receiver's own tables leaves out the contract.
use Rattle.std.specs.Prelude.{ℕ, ℤ, List, length, codes, Ok, Err, option_map}
use Rattle.std.specs.Ordering.{nat_cmp}
use Rattle.std.specs.FinMap.Entries.{find}
use Rattle.ante_undo.specs.Entries.{entry_from, entry_after}
use Rattle.ante_pack.specs.declared.names.TableKey.{TableKey}
use Rattle.ante_types.specs.declared.context.RunContext.{RunContext}
use Rattle.ante_types.specs.declared.failure.Failure.{Failure}
use Rattle.ante_wmem.specs.Linear.{LinearMemory, written}
use Rattle.ante_wmem.specs.HostCalls.{Outcome, value}
use Rattle.ante_calls.specs.declared.calls.RowCall.{RowCall}
use Rattle.ante_calls.specs.declared.calls.RowCall.TheVariants as calls
use Rattle.ante_calls.specs.declared.faults.DbFault.TheVariants as fault
use Rattle.ante_calls.specs.Calls.{arg, arg32, signed_arg, name_arg, range, bytes_from, shorter, refuses, replies, reading, paying}
use Rattle.ante_itercache.specs.Iterators.{live_row}
use Rattle.ante_calls.specs.Kinds.{primary_kind}
use Rattle.ante_calls.specs.Rows.{Answer, then_do, some_or, look_for, end, next, previous, store, update, remove}
use Rattle.ante_calls.specs.RowReplies.{failure_of, answered, iterator_alone, no_answer, iterator_and_primary}
use Rattle.ante_calls.specs.Views.{RowView}

-- the table that three arguments name
abbrev pub table_arg : List ℕ → TableKey
table_arg args = record { code = name_arg args 0; scope = name_arg args 1; table = name_arg args 2 }

-- ---- what the calls answer

-- the row with this primary key
abbrev pub find_i64 : TableKey → ℕ → RowView → ℤ × RowView
find_i64 key id v = let r = look_for primary_kind key (λ rows. option_map (λ row. id) (find nat_cmp id rows)) v in (r.0.0, r.1)

-- the first row whose primary key is at least this one
abbrev pub lowerbound_i64 : TableKey → ℕ → RowView → ℤ × RowView
lowerbound_i64 key id v = let r = look_for primary_kind key (λ rows. option_map (λ e. e.0) (entry_from nat_cmp id rows)) v in (r.0.0, r.1)

-- the first row whose primary key is greater
abbrev pub upperbound_i64 : TableKey → ℕ → RowView → ℤ × RowView
upperbound_i64 key id v = let r = look_for primary_kind key (λ rows. option_map (λ e. e.0) (entry_after nat_cmp id rows)) v in (r.0.0, r.1)

-- the bytes of the live row with this number: how many there are where n is 0, else the first n of them and their count
abbrev pub get_i64 : ℤ → (n : ℕ) → RowView → Answer (ℕ × List ℕ)
get_i64 it n v =
    then_do (some_or (fault.BadIterator it) (live_row it v.iters)) (λ r.
    then_do (some_or (fault.BadIterator it) (primary_kind.row r.0 r.1 v.world)) (λ row. Ok (shorter n row.bytes, v)))

-- ---- the calls

-- db_store_i64(scope, table, payer, id, at, n): a new row of n bytes, and its iterator
abbrev pub db_store_i64 : RunContext → RowView → List ℕ → LinearMemory → (left : ℕ) → Outcome RowView Failure
db_store_i64 run v args m left = reading (range 4 args m) left (λ bytes. paying (length bytes) left
    (answered (codes "db_store_i64") (store primary_kind run (name_arg args 0) (name_arg args 1) (name_arg args 2) (arg args 3) bytes v) (iterator_alone m)))

-- db_update_i64(it, payer, at, n): other bytes for the row, and another payer unless the name is empty
abbrev pub db_update_i64 : RunContext → RowView → List ℕ → LinearMemory → (left : ℕ) → Outcome RowView Failure
db_update_i64 run v args m left = reading (range 2 args m) left (λ bytes. paying (length bytes) left
    (answered (codes "db_update_i64") (update primary_kind run (signed_arg args 0) (name_arg args 1) bytes v) (no_answer m)))

-- db_remove_i64(it)
abbrev pub db_remove_i64 : RunContext → RowView → List ℕ → LinearMemory → (left : ℕ) → Outcome RowView Failure
db_remove_i64 run v args m left = replies (answered (codes "db_remove_i64") (remove primary_kind run (signed_arg args 0) v) (no_answer m)) left

-- The bytes are paid where they are copied: a bad iterator costs nothing.
abbrev pub got : Answer (ℕ × List ℕ) → (at : ℕ) → LinearMemory → (left : ℕ) → Outcome RowView Failure
got (Err f) at m left = refuses (failure_of (codes "db_get_i64") f) left
got (Ok a) at m left = paying (length a.0.1) left (value a.0.0 a.1 (written m at a.0.1))

-- db_get_i64(it, at, n): the row's size where n is 0, else the shorter of n and the size, which is copied
abbrev pub db_get_i64 : RowView → List ℕ → LinearMemory → (left : ℕ) → Outcome RowView Failure
db_get_i64 v args m left = reading (range 1 args m) left (λ bytes. got (get_i64 (signed_arg args 0) (arg32 args 2) v) (arg32 args 1) m left)

-- db_next_i64(it, primary): the next row's iterator, and its primary key in the eight bytes at `primary`
abbrev pub db_next_i64 : RowView → List ℕ → LinearMemory → (left : ℕ) → Outcome RowView Failure
db_next_i64 v args m left = reading (bytes_from 1 8 args m) left (λ bytes.
    replies (answered (codes "db_next_i64") (next primary_kind (signed_arg args 0) v) (iterator_and_primary (arg32 args 1) m)) left)

-- db_previous_i64(it, primary)
abbrev pub db_previous_i64 : RowView → List ℕ → LinearMemory → (left : ℕ) → Outcome RowView Failure
db_previous_i64 v args m left = reading (bytes_from 1 8 args m) left (λ bytes.
    replies (answered (codes "db_previous_i64") (previous primary_kind (signed_arg args 0) v) (iterator_and_primary (arg32 args 1) m)) left)

abbrev pub gives : LinearMemory → (left : ℕ) → ℤ × RowView → Outcome RowView Failure
gives m left r = replies (iterator_alone m r.0 r.1) left

-- db_find_i64(code, scope, table, id), db_lowerbound_i64 and db_upperbound_i64 (the same), db_end_i64(code, scope, table)
abbrev pub db_find_i64 : RowView → List ℕ → LinearMemory → (left : ℕ) → Outcome RowView Failure
db_find_i64 v args m left = gives m left (find_i64 (table_arg args) (arg args 3) v)

abbrev pub db_lowerbound_i64 : RowView → List ℕ → LinearMemory → (left : ℕ) → Outcome RowView Failure
db_lowerbound_i64 v args m left = gives m left (lowerbound_i64 (table_arg args) (arg args 3) v)

abbrev pub db_upperbound_i64 : RowView → List ℕ → LinearMemory → (left : ℕ) → Outcome RowView Failure
db_upperbound_i64 v args m left = gives m left (upperbound_i64 (table_arg args) (arg args 3) v)

abbrev pub db_end_i64 : RowView → List ℕ → LinearMemory → (left : ℕ) → Outcome RowView Failure
db_end_i64 v args m left = gives m left (end primary_kind (table_arg args) v)

-- ---- all of them

abbrev pub row_call : RowCall → RunContext → RowView → List ℕ → LinearMemory → (left : ℕ) → Outcome RowView Failure
row_call calls.Store run v args m left = db_store_i64 run v args m left
row_call calls.Update run v args m left = db_update_i64 run v args m left
row_call calls.Remove run v args m left = db_remove_i64 run v args m left
row_call calls.Get run v args m left = db_get_i64 v args m left
row_call calls.Next run v args m left = db_next_i64 v args m left
row_call calls.Previous run v args m left = db_previous_i64 v args m left
row_call calls.Find run v args m left = db_find_i64 v args m left
row_call calls.LowerBound run v args m left = db_lowerbound_i64 v args m left
row_call calls.UpperBound run v args m left = db_upperbound_i64 v args m left
row_call calls.End run v args m left = db_end_i64 v args m left
