-- What a call answers to a number, once it is known what the number stands for. `it` is the argument, and `jt` the argument as it was passed on.
use Rattle.std.proofs.Common.{◌≡◌, ℕ, ℤ, int_lt, true, false, cond, List, Option, None, Some, Result, Ok, Err, sym, ap, ◌∙◌, subst}
use Rattle.std.specs.Ordering.{nat_cmp}
use Rattle.std.specs.FinMap.Entries.{find}
use Rattle.ante_undo.specs.Entries.{entry_after, entry_before, last_entry}
use Rattle.ante_pack.specs.declared.names.TableKey.{TableKey}
use Rattle.ante_state.specs.declared.tables.PrimaryRow.{PrimaryRow}
use Rattle.ante_calls.specs.declared.faults.DbFault.{DbFault}
use Rattle.ante_calls.specs.declared.faults.DbFault.TheVariants as fault
use Rattle.ante_calls.specs.Kinds.{primary_kind, primary_rows}
use Rattle.ante_calls.specs.Calls.{shorter}
use Rattle.ante_calls.specs.PrimaryCalls.{get_i64}
use Rattle.ante_calls.specs.RowAnswers.{IsRowAnswer}
use Rattle.ante_calls.specs.Rows.{Answer, then_do, some_or, standing, place_of, next, next_met, previous, previous_met, before_end}
use Rattle.ante_calls.specs.Views.{RowView}
use Rattle.ante_itercache.specs.Iterators.{no_iterator, live_row, end_table}

stands : (it : ℤ) (v : RowView) (key : TableKey) (primary : ℕ) → some_or (fault.BadIterator it) (live_row it v.iters) ≡ Ok (key, primary) → standing primary_kind it v ≡ Ok (key, primary)
stands it v key primary h = ap (λ x. then_do x (λ r. then_do (some_or (fault.BadIterator it) (primary_kind.place r.0 r.1 v.world)) (λ place. Ok (r.0, place)))) h

abbrev pub go_on : RowView → TableKey × ℕ → Answer (ℤ × Option ℕ)
go_on v s = Ok (next_met primary_kind s.0 (place_of primary_kind (entry_after nat_cmp s.1 (primary_rows s.0 v.world))) v)

abbrev pub go_back : RowView → TableKey × ℕ → Answer (ℤ × Option ℕ)
go_back v s = Ok (previous_met primary_kind s.0 (place_of primary_kind (entry_before nat_cmp s.1 (primary_rows s.0 v.world))) v)

next_is : (it : ℤ) (v : RowView) (key : TableKey) (primary : ℕ) → int_lt it no_iterator ≡ false → some_or (fault.BadIterator it) (live_row it v.iters) ≡ Ok (key, primary) → next primary_kind it v ≡ go_on v (key, primary)
next_is it v key primary h live =
    ap (λ b. cond {A = Answer (ℤ × Option ℕ)} b (Ok ((no_iterator, None), v)) (then_do (standing primary_kind it v) (go_on v))) h
    ∙ ap (λ x. then_do x (go_on v)) (stands it v key primary live)

pub next_answers : (it jt : ℤ) → jt ≡ it → (v w : RowView) (key : TableKey) (primary : ℕ) (found : Option ℕ) (result : Result (ℤ × Option ℕ) DbFault) → int_lt jt no_iterator ≡ false → some_or (fault.BadIterator jt) (live_row jt v.iters) ≡ Ok (key, primary) → found ≡ place_of primary_kind (entry_after nat_cmp primary (primary_rows key v.world)) → IsRowAnswer (λ a. a) (Ok (next_met primary_kind key found v)) result v w → IsRowAnswer (λ a. a) (next primary_kind it v) result v w
next_answers it jt e v w key primary found result h live is answers =
    let lives : some_or (fault.BadIterator it) (live_row it v.iters) ≡ Ok (key, primary) = subst (λ n. some_or (fault.BadIterator n) (live_row n v.iters) ≡ Ok (key, primary)) e live in
    subst (λ a. IsRowAnswer (λ a. a) a result v w) (ap (λ found. Ok (next_met primary_kind key found v)) is ∙ sym (next_is it v key primary (subst (λ n. int_lt n no_iterator ≡ false) e h) lives)) answers

previous_is : (it : ℤ) (v : RowView) (key : TableKey) (primary : ℕ) → int_lt it no_iterator ≡ false → some_or (fault.BadIterator it) (live_row it v.iters) ≡ Ok (key, primary) → previous primary_kind it v ≡ go_back v (key, primary)
previous_is it v key primary h live =
    ap (λ b. cond {A = Answer (ℤ × Option ℕ)} b (before_end primary_kind (end_table it v.iters) it v) (then_do (standing primary_kind it v) (go_back v))) h
    ∙ ap (λ x. then_do x (go_back v)) (stands it v key primary live)

pub previous_answers : (it jt : ℤ) → jt ≡ it → (v w : RowView) (key : TableKey) (primary : ℕ) (found : Option ℕ) (result : Result (ℤ × Option ℕ) DbFault) → int_lt jt no_iterator ≡ false → some_or (fault.BadIterator jt) (live_row jt v.iters) ≡ Ok (key, primary) → found ≡ place_of primary_kind (entry_before nat_cmp primary (primary_rows key v.world)) → IsRowAnswer (λ a. a) (Ok (previous_met primary_kind key found v)) result v w → IsRowAnswer (λ a. a) (previous primary_kind it v) result v w
previous_answers it jt e v w key primary found result h live is answers =
    let lives : some_or (fault.BadIterator it) (live_row it v.iters) ≡ Ok (key, primary) = subst (λ n. some_or (fault.BadIterator n) (live_row n v.iters) ≡ Ok (key, primary)) e live in
    subst (λ a. IsRowAnswer (λ a. a) a result v w) (ap (λ found. Ok (previous_met primary_kind key found v)) is ∙ sym (previous_is it v key primary (subst (λ n. int_lt n no_iterator ≡ false) e h) lives)) answers

last_is : (it : ℤ) (v : RowView) (key : TableKey) → int_lt it no_iterator ≡ true → end_table it v.iters ≡ Some key → previous primary_kind it v ≡ Ok (previous_met primary_kind key (place_of primary_kind (last_entry (primary_rows key v.world))) v)
last_is it v key h at =
    ap (λ b. cond {A = Answer (ℤ × Option ℕ)} b (before_end primary_kind (end_table it v.iters) it v) (then_do (standing primary_kind it v) (go_back v))) h
    ∙ ap (λ k. before_end primary_kind k it v) at

pub last_answers : (it jt : ℤ) → jt ≡ it → (v w : RowView) (key : TableKey) (found : Option ℕ) (result : Result (ℤ × Option ℕ) DbFault) → int_lt jt no_iterator ≡ true → end_table jt v.iters ≡ Some key → found ≡ place_of primary_kind (last_entry (primary_rows key v.world)) → IsRowAnswer (λ a. a) (Ok (previous_met primary_kind key found v)) result v w → IsRowAnswer (λ a. a) (previous primary_kind it v) result v w
last_answers it jt e v w key found result h at is answers =
    let ends : end_table it v.iters ≡ Some key = subst (λ n. end_table n v.iters ≡ Some key) e at in
    subst (λ a. IsRowAnswer (λ a. a) a result v w) (ap (λ found. Ok (previous_met primary_kind key found v)) is ∙ sym (last_is it v key (subst (λ n. int_lt n no_iterator ≡ true) e h) ends)) answers

-- ---- the row itself

abbrev pub row_of : ℤ → (n : ℕ) → RowView → TableKey × ℕ → Answer (ℕ × List ℕ)
row_of it n v r = then_do (some_or (fault.BadIterator it) (find nat_cmp r.1 (primary_rows r.0 v.world))) (λ row. Ok (shorter n row.bytes, v))

pub got_row : (it jt : ℤ) → jt ≡ it → (n : ℕ) (v : RowView) (key : TableKey) (primary : ℕ) (row : PrimaryRow) → some_or (fault.BadIterator jt) (live_row jt v.iters) ≡ Ok (key, primary) → find nat_cmp primary (primary_rows key v.world) ≡ Some row → get_i64 it n v ≡ Ok (shorter n row.bytes, v)
got_row it jt e n v key primary row live at =
    ap (λ k. get_i64 k n v) (sym e) ∙ ap (λ x. then_do x (row_of jt n v)) live ∙ ap (λ o. then_do (some_or (fault.BadIterator jt) o) (λ row. Ok (shorter n row.bytes, v))) at

pub got_none : (it jt : ℤ) → jt ≡ it → (n : ℕ) (v : RowView) (key : TableKey) (primary : ℕ) → some_or (fault.BadIterator jt) (live_row jt v.iters) ≡ Ok (key, primary) → find nat_cmp primary (primary_rows key v.world) ≡ None → get_i64 it n v ≡ Err (fault.BadIterator jt)
got_none it jt e n v key primary live at =
    ap (λ k. get_i64 k n v) (sym e) ∙ ap (λ x. then_do x (row_of jt n v)) live ∙ ap (λ o. then_do (some_or (fault.BadIterator jt) o) (λ row. Ok (shorter n row.bytes, v))) at
