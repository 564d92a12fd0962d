-- What every call keeps: none raises the steps left, a call on rows meets one table and one row at most that it hadn't met, and every other call
-- leaves the run in its mode.
use Rattle.std.proofs.Common.{◌≡◌, ℕ, zero, suc, ◌+◌, ◌-◌, ◌/◌, ◌==◌, ◌≤◌, Bool, true, false, List, [], ◌∷◌, length, position, Option, None, Some, refl, ap, subst, sym, arith}
use Rattle.std.specs.Prelude.{ℤ, pos, negsuc, int_lt, nat_lt, bytes_eq, option_map, Result, Ok, Err, if◌then◌else◌}
use Rattle.std.specs.FinMap.Entries.{find}
use Rattle.std.specs.Int.{abs_diff}
use Rattle.std.specs.Ordering.{nat_cmp, eq_by_cmp, is_gt, is_ge}
use Rattle.ante_undo.specs.Entries.{entry_from, entry_after}
use Rattle.std.proofs.lemmas.List.{length-append}
use Rattle.sha2.specs.Sha256.{sha256}
use Rattle.ante_pack.specs.declared.fault.PackFault.{PackFault}
use Rattle.ante_pack.specs.declared.names.Name.{Name}
use Rattle.ante_pack.specs.declared.names.TableKey.{TableKey}
use Rattle.ante_pack.specs.Forms.{whole}
use Rattle.ante_itercache.specs.declared.met.MetRow.{MetRow}
use Rattle.ante_itercache.specs.Iterators.{Iterators, no_iterator, is_table, is_row, table_met_at, meet_table, row_met_at, meet_row, end_table, live_row, dead_at, row_removed}
use Rattle.ante_store.specs.declared.change.Change.{Change}
use Rattle.ante_store.specs.declared.change.WriteError.{WriteError}
use Rattle.ante_types.specs.Chain.{action}
use Rattle.ante_types.specs.declared.chain.Action.{Action}
use Rattle.ante_types.specs.declared.context.Mode.{Mode}
use Rattle.ante_types.specs.declared.context.Mode.TheVariants as mode
use Rattle.ante_types.specs.declared.context.RunContext.{RunContext}
use Rattle.ante_types.specs.declared.failure.Failure.{Failure}
use Rattle.ante_wmem.specs.Linear.{LinearMemory}
use Rattle.ante_wmem.specs.HostCalls.{Reply, Outcome, value, nothing, exit, refused, step_limit}
use Rattle.ante_calls.specs.declared.calls.IndexCall.{IndexCall}
use Rattle.ante_calls.specs.declared.calls.IndexCall.TheVariants as index
use Rattle.ante_calls.specs.declared.calls.Intrinsic.{Intrinsic}
use Rattle.ante_calls.specs.declared.calls.Intrinsic.TheVariants as group
use Rattle.ante_calls.specs.declared.calls.RowCall.{RowCall}
use Rattle.ante_calls.specs.declared.calls.RowCall.TheVariants as row
use Rattle.ante_calls.specs.declared.calls.SysCall.{SysCall}
use Rattle.ante_calls.specs.declared.calls.SysCall.TheVariants as sys
use Rattle.ante_calls.specs.declared.faults.DbFault.{DbFault}
use Rattle.ante_calls.specs.declared.faults.DbFault.TheVariants as fault
use Rattle.ante_calls.specs.Accounts.{is_account, is_actor, has_level}
use Rattle.ante_calls.specs.ActionData.{most_return}
use Rattle.ante_calls.specs.Authorization.{asking_refusal, is_notified, sending_refusal, sent}
use Rattle.ante_calls.specs.Calls.{arg, arg32, signed_arg, name_arg, range, bytes_from, text, reading, paying, writing, unless, map_reply, map_outcome}
use Rattle.ante_calls.specs.ChainState.{limits_refusal, quota_set}
use Rattle.ante_calls.specs.IndexCalls.{KeyForm, IndexRows, index_kind, first_place, key_bytes, key_refusal, after_key, index_call, key64, key128, key256, rows64, rows128, rows256}
use Rattle.ante_calls.specs.Kinds.{Kind, primary_kind}
use Rattle.ante_calls.specs.Numbers.{intrinsic}
use Rattle.ante_calls.specs.PrimaryCalls.{table_arg, get_i64, got, row_call}
use Rattle.ante_calls.specs.RowReplies.{answered, iterator_alone, no_answer, iterator_and_primary}
use Rattle.ante_calls.specs.Rows as rows
use Rattle.ante_calls.specs.Rows.{Answer}
use Rattle.ante_calls.specs.System.{sys_call}
use Rattle.ante_calls.specs.WideIntegers.{wide_arg}
use Rattle.ante_calls.specs.Views.{Seen, SysView, RowView, sys_of, with_sys, rows_of, with_rows, index64_of, with_index64, index128_of, with_index128, index256_of, with_index256}

-- ---- outcomes

-- what the reply leaves, if the run goes on or ends well, is so
abbrev pub Leaving : {W : Type 0} → (W → Type 0) → Reply W Failure → Type 0
Leaving Q (value n w m) = Q w
Leaving Q (nothing w m) = Q w
Leaving Q (exit w m) = Q w
Leaving Q (refused f) = Unit {0}
Leaving Q step_limit = Unit {0}

-- and there are no more steps left than before
pub record Fine {W : Type 0} (Q : W → Type 0) (left : ℕ) (o : Outcome W Failure) : Type 0 where
  pub falls : o.left ≤ left
  pub reply : Leaving Q o.reply

either : {A : Type 0} (P : A → Type 0) (b : Bool) (x y : A) → P x → P y → P (if b then x else y)
either P true x y h k = h
either P false x y h k = k

module _ {W : Type 0} (Q : W → Type 0) where
  fine_now : (left : ℕ) (reply : Reply W Failure) → Leaving Q reply → Fine Q left (record { reply = reply; left = left })
  fine_now left reply h = record { falls = omega arith; reply = h }

  fine_paying : (moved left : ℕ) (reply : Reply W Failure) → Leaving Q reply → Fine Q left (paying moved left reply)
  fine_paying moved left reply h =
      either (Fine Q left) (nat_lt left (moved / 64)) _ _ (record { falls = omega arith; reply = tt }) (record { falls = omega arith; reply = h })

  fine_reading : (bytes : Option (List ℕ)) (left : ℕ) (go : List ℕ → Outcome W Failure) → ((b : List ℕ) → Fine Q left (go b)) →
      Fine Q left (reading bytes left go)
  fine_reading None left go h = record { falls = omega arith; reply = tt }
  fine_reading (Some b) left go h = h b

  leaving_unless : (f : Option Failure) (reply : Reply W Failure) → Leaving Q reply → Leaving Q (unless f reply)
  leaving_unless None reply h = h
  leaving_unless (Some f) reply h = tt

  leaving_writing : (run : Mode) (name : List ℕ) (reply : Reply W Failure) → Leaving Q reply → Leaving Q (writing run name reply)
  leaving_writing mode.Reading name reply h = tt
  leaving_writing mode.Writing name reply h = h

module _ {V W : Type 0} (Q : V → Type 0) (P : W → Type 0) (f : V → W) (carries : (v : V) → Q v → P (f v)) where
  leaving_mapped : (reply : Reply V Failure) → Leaving Q reply → Leaving P (map_reply f reply)
  leaving_mapped (value n v m) h = carries v h
  leaving_mapped (nothing v m) h = carries v h
  leaving_mapped (exit v m) h = carries v h
  leaving_mapped (refused r) h = tt
  leaving_mapped step_limit h = tt

  fine_mapped : (left : ℕ) (o : Outcome V Failure) → Fine Q left o → Fine P left (map_outcome f o)
  fine_mapped left o h = record { falls = h.falls; reply = leaving_mapped o.reply h.reply }

-- ---- iterators

-- longer by one table and one row at most
pub record Grows (old new : Iterators) : Type 0 where
  pub tables : length new.tables ≤ length old.tables + 1
  pub rows : length new.rows ≤ length old.rows + 1

same_grows : (i : Iterators) → Grows i i
same_grows i = record { tables = omega arith; rows = omega arith }

tables_longer : (o : Option ℕ) (key : TableKey) (i : Iterators) → length (table_met_at o key i).1.tables ≤ length i.tables + 1
tables_longer (Some place) key i = omega arith
tables_longer None key i = omega (arith, length-append i.tables (key ∷ []))

rows_kept : (o : Option ℕ) (key : TableKey) (i : Iterators) → (table_met_at o key i).1.rows ≡ i.rows
rows_kept (Some place) key i = refl
rows_kept None key i = refl

rows_longer : (o : Option ℕ) (key : TableKey) (primary : ℕ) (i : Iterators) → length (row_met_at o key primary i).1.rows ≤ length i.rows + 1
rows_longer (Some place) key primary i = omega arith
rows_longer None key primary i = omega (arith, length-append i.rows (record { table = key; primary = primary; live = true } ∷ []))

tables_kept : (o : Option ℕ) (key : TableKey) (primary : ℕ) (i : Iterators) → (row_met_at o key primary i).1.tables ≡ i.tables
tables_kept (Some place) key primary i = refl
tables_kept None key primary i = refl

-- tables first and then rows
chained : (i j k : Iterators) → length j.tables ≤ length i.tables + 1 → j.rows ≡ i.rows → k.tables ≡ j.tables → length k.rows ≤ length j.rows + 1 → Grows i k
chained i j k t e f r = record {
  tables = subst (λ x. length x ≤ length i.tables + 1) (sym f) t;
  rows = subst (λ x. length k.rows ≤ length x + 1) e r;
}

table_grows : (key : TableKey) (i : Iterators) → Grows i (meet_table key i).1
table_grows key i = let j = (meet_table key i).1 in
    chained i j j (tables_longer (position (is_table key) i.tables) key i) (rows_kept (position (is_table key) i.tables) key i) refl (omega arith)

row_grows : (key : TableKey) (primary : ℕ) (i : Iterators) → Grows i (meet_row key primary i).1
row_grows key primary i =
    chained i i (meet_row key primary i).1 (omega arith) refl (tables_kept (position (is_row key primary) i.rows) key primary i)
    (rows_longer (position (is_row key primary) i.rows) key primary i)

both_grow : (key there : TableKey) (primary : ℕ) (i : Iterators) → Grows i (meet_row there primary (meet_table key i).1).1
both_grow key there primary i = let j = (meet_table key i).1 in
    chained i j (meet_row there primary j).1 (tables_longer (position (is_table key) i.tables) key i) (rows_kept (position (is_table key) i.tables) key i)
    (tables_kept (position (is_row there primary) j.rows) there primary j) (rows_longer (position (is_row there primary) j.rows) there primary j)

dead_length : (n : ℕ) (rows : List MetRow) → length (dead_at n rows) ≡ length rows
dead_length n [] = refl
dead_length zero (r ∷ rows) = refl
dead_length (suc n) (r ∷ rows) = ap suc (dead_length n rows)

removed_grows : (it : ℤ) (i : Iterators) → Grows i (row_removed it i)
removed_grows (pos n) i = record { tables = omega arith; rows = omega (arith, dead_length n i.rows) }
removed_grows (negsuc n) i = same_grows i

-- ---- what the calls on rows answer

abbrev Grown : {A : Type 0} → Iterators → Answer A → Type 0
Grown i (Ok a) = Grows i a.1.iters
Grown i (Err f) = Unit {0}

module _ {A : Type 0} (i : Iterators) where
  unless_grown : (f : Option DbFault) (a : Answer A) → Grown i a → Grown i (rows.unless f a)
  unless_grown None a h = h
  unless_grown (Some f) a h = tt

  writing_grown : (run : Mode) (a : Answer A) → Grown i a → Grown i (rows.writing run a)
  writing_grown mode.Reading a h = tt
  writing_grown mode.Writing a h = h

then_grown : {A B : Type 0} (i : Iterators) (r : Result A DbFault) (go : A → Answer B) → ((a : A) → Grown i (go a)) → Grown i (rows.then_do r go)
then_grown i (Ok a) go h = h a
then_grown i (Err f) go h = tt

module _ {P R V : Type 0} (kind : Kind P R V) where
  or_end_grows : (key : TableKey) (found : Option P) (i : Iterators) → Grows i (rows.row_or_end kind key found (meet_table key i)).1
  or_end_grows key None i = table_grows key i
  or_end_grows key (Some place) i = both_grow key key (kind.primary place) i

  looked_grows : (there : Bool) (key : TableKey) (found : Option P) (v : RowView) → Grows v.iters (rows.looked_for kind there key found v).1.iters
  looked_grows false key found v = same_grows v.iters
  looked_grows true key found v = or_end_grows key found v.iters

  look_grows : (key : TableKey) (search : List (P × R) → Option P) (v : RowView) → Grows v.iters (rows.look_for kind key search v).1.iters
  look_grows key search v = looked_grows (rows.has_table key v.world) key (search (kind.rows key v.world)) v

  next_met_grows : (key : TableKey) (found : Option P) (v : RowView) → Grows v.iters (rows.next_met kind key found v).1.iters
  next_met_grows key None v = table_grows key v.iters
  next_met_grows key (Some place) v = row_grows key (kind.primary place) v.iters

  previous_met_grows : (key : TableKey) (found : Option P) (v : RowView) → Grows v.iters (rows.previous_met kind key found v).1.iters
  previous_met_grows key None v = same_grows v.iters
  previous_met_grows key (Some place) v = row_grows key (kind.primary place) v.iters

  next_grown : (it : ℤ) (v : RowView) → Grown v.iters (rows.next kind it v)
  next_grown it v = either (Grown v.iters) (int_lt it no_iterator) _ _ (same_grows v.iters)
      (then_grown v.iters (rows.standing kind it v) _ (λ s. next_met_grows s.0 _ v))

  before_end_grown : (o : Option TableKey) (it : ℤ) (v : RowView) → Grown v.iters (rows.before_end kind o it v)
  before_end_grown None it v = tt
  before_end_grown (Some key) it v = previous_met_grows key _ v

  previous_grown : (it : ℤ) (v : RowView) → Grown v.iters (rows.previous kind it v)
  previous_grown it v = either (Grown v.iters) (int_lt it no_iterator) _ _ (before_end_grown (end_table it v.iters) it v)
      (then_grown v.iters (rows.standing kind it v) _ (λ s. previous_met_grows s.0 _ v))

  store_grown : (run : RunContext) (scope table payer : Name) (primary : ℕ) (stored : V) (v : RowView) →
      Grown v.iters (rows.store kind run scope table payer primary stored v)
  store_grown run scope table payer primary stored v =
      let key : TableKey = record { code = run.receiver; scope = scope; table = table } in
      writing_grown v.iters run.mode _ (unless_grown v.iters (rows.store_refusal kind run key payer primary v.world) _
      (then_grown v.iters (rows.make (fault.KeyExists primary) (kind.storing key primary payer stored) v.world) _ (λ w. both_grow key key primary v.iters)))

  update_grown : (run : RunContext) (it : ℤ) (payer : Name) (stored : V) (v : RowView) → Grown v.iters (rows.update kind run it payer stored v)
  update_grown run it payer stored v =
      writing_grown v.iters run.mode _ (then_grown v.iters (rows.own_row kind run it v.iters) _ (λ r.
      then_grown v.iters (rows.some_or (fault.BadIterator it) (kind.row r.0 r.1 v.world)) _ (λ row.
      unless_grown v.iters (rows.update_refusal kind run payer row stored v.world) _
      (then_grown v.iters (rows.make (fault.BadIterator it) (kind.updating r.0 r.1 (rows.new_payer kind payer row) stored) v.world) _ (λ w.
      same_grows v.iters)))))

  remove_grown : (run : RunContext) (it : ℤ) (v : RowView) → Grown v.iters (rows.remove kind run it v)
  remove_grown run it v =
      writing_grown v.iters run.mode _ (then_grown v.iters (rows.own_row kind run it v.iters) _ (λ r.
      then_grown v.iters (rows.make (fault.BadIterator it) (kind.removing r.0 r.1) v.world) _ (λ w. removed_grows it v.iters)))

-- ---- the calls on rows

abbrev pub Met : Iterators → RowView → Type 0
Met i v = Grows i v.iters

answered_grows : {A : Type 0} (i : Iterators) (name : List ℕ) (a : Answer A) (go : A → RowView → Reply RowView Failure) →
    Grown i a → ((x : A) (v : RowView) → Met i v → Leaving (Met i) (go x v)) → Leaving (Met i) (answered name a go)
answered_grows i name (Ok a) go h k = k a.0 a.1 h
answered_grows i name (Err f) go h k = tt

got_fine : (i : Iterators) (a : Answer (ℕ × List ℕ)) (at : ℕ) (m : LinearMemory) (left : ℕ) → Grown i a → Fine (Met i) left (got a at m left)
got_fine i (Ok a) at m left h = fine_paying (Met i) (length a.0.1) left _ h
got_fine i (Err f) at m left h = record { falls = omega arith; reply = tt }

module _ (run : RunContext) (v : RowView) (args : List ℕ) (m : LinearMemory) (left : ℕ) where
  abbrev M : RowView → Type 0
  M = Met v.iters

  get_grown : (it : ℤ) (n : ℕ) → Grown v.iters (get_i64 it n v)
  get_grown it n = then_grown v.iters (rows.some_or (fault.BadIterator it) (live_row it v.iters)) _ (λ r.
      then_grown v.iters (rows.some_or (fault.BadIterator it) (primary_kind.row r.0 r.1 v.world)) _ (λ row. same_grows v.iters))

  pub row_fine : (c : RowCall) → Fine M left (row_call c run v args m left)
  row_fine row.Store = fine_reading M (range 4 args m) left _ (λ bytes. fine_paying M (length bytes) left _
      (answered_grows v.iters _ _ (iterator_alone m)
      (store_grown primary_kind run (name_arg args 0) (name_arg args 1) (name_arg args 2) (arg args 3) bytes v) (λ x w h. h)))
  row_fine row.Update = fine_reading M (range 2 args m) left _ (λ bytes. fine_paying M (length bytes) left _
      (answered_grows v.iters _ _ (no_answer m) (update_grown primary_kind run (signed_arg args 0) (name_arg args 1) bytes v) (λ x w h. h)))
  row_fine row.Remove = fine_now M left _ (answered_grows v.iters _ _ (no_answer m) (remove_grown primary_kind run (signed_arg args 0) v) (λ x w h. h))
  row_fine row.Get = fine_reading M (range 1 args m) left _ (λ bytes. got_fine v.iters _ (arg32 args 1) m left (get_grown (signed_arg args 0) (arg32 args 2)))
  row_fine row.Next = fine_reading M (bytes_from 1 8 args m) left _ (λ bytes. fine_now M left _
      (answered_grows v.iters _ _ (iterator_and_primary (arg32 args 1) m) (next_grown primary_kind (signed_arg args 0) v) (λ x w h. h)))
  row_fine row.Previous = fine_reading M (bytes_from 1 8 args m) left _ (λ bytes. fine_now M left _
      (answered_grows v.iters _ _ (iterator_and_primary (arg32 args 1) m) (previous_grown primary_kind (signed_arg args 0) v) (λ x w h. h)))
  row_fine row.Find = fine_now M left _ (look_grows primary_kind (table_arg args) (λ found. option_map (λ row. arg args 3) (find nat_cmp (arg args 3) found)) v)
  row_fine row.LowerBound = fine_now M left _ (look_grows primary_kind (table_arg args) (λ found. option_map (λ e. e.0) (entry_from nat_cmp (arg args 3) found)) v)
  row_fine row.UpperBound = fine_now M left _ (look_grows primary_kind (table_arg args) (λ found. option_map (λ e. e.0) (entry_after nat_cmp (arg args 3) found)) v)
  row_fine row.End = fine_now M left _ (look_grows primary_kind (table_arg args) (λ found. None) v)

  module _ {K : Type 0} (form : KeyForm K) (rows_in : IndexRows K) where
    pub index_fine : (c : IndexCall) → Fine M left (index_call form rows_in c run v args m left)
    index_fine index.Store = fine_reading M (key_bytes form rows_in 4 args m) left _ (λ bytes. fine_now M left _
        (leaving_writing M run.mode _ _ (leaving_unless M (key_refusal form rows_in 4 args) _ (answered_grows v.iters _ _ (iterator_alone m)
        (store_grown (index_kind form rows_in) run (name_arg args 0) (name_arg args 1) (name_arg args 2) (arg args 3) (form.of_bytes bytes) v) (λ x w h. h)))))
    index_fine index.Update = fine_reading M (key_bytes form rows_in 2 args m) left _ (λ bytes. fine_now M left _
        (leaving_writing M run.mode _ _ (leaving_unless M (key_refusal form rows_in 2 args) _ (answered_grows v.iters _ _ (no_answer m)
        (update_grown (index_kind form rows_in) run (signed_arg args 0) (name_arg args 1) (form.of_bytes bytes) v) (λ x w h. h)))))
    index_fine index.Remove = fine_now M left _
        (answered_grows v.iters _ _ (no_answer m) (remove_grown (index_kind form rows_in) run (signed_arg args 0) v) (λ x w h. h))
    index_fine index.Next = fine_reading M (bytes_from 1 8 args m) left _ (λ bytes. fine_now M left _
        (answered_grows v.iters _ _ (iterator_and_primary (arg32 args 1) m) (next_grown (index_kind form rows_in) (signed_arg args 0) v) (λ x w h. h)))
    index_fine index.Previous = fine_reading M (bytes_from 1 8 args m) left _ (λ bytes. fine_now M left _
        (answered_grows v.iters _ _ (iterator_and_primary (arg32 args 1) m) (previous_grown (index_kind form rows_in) (signed_arg args 0) v) (λ x w h. h)))
    index_fine index.FindPrimary = fine_reading M (key_bytes form rows_in 3 args m) left _ (λ bytes. fine_now M left _
        (leaving_unless M (key_refusal form rows_in 3 args) _
        (look_grows (index_kind form rows_in) (table_arg args) (first_place form rows_in (λ place. place.1 == arg args (after_key form rows_in 3))) v)))
    index_fine index.FindSecondary = fine_reading M (key_bytes form rows_in 3 args m) left _ (λ bytes.
        fine_reading M (bytes_from (after_key form rows_in 3) 8 args m) left _ (λ others. fine_now M left _ (leaving_unless M (key_refusal form rows_in 3 args) _
        (look_grows (index_kind form rows_in) (table_arg args) (first_place form rows_in (λ place. eq_by_cmp form.order place.0 (form.of_bytes bytes))) v))))
    index_fine index.LowerBound = fine_reading M (key_bytes form rows_in 3 args m) left _ (λ bytes.
        fine_reading M (bytes_from (after_key form rows_in 3) 8 args m) left _ (λ others. fine_now M left _ (leaving_unless M (key_refusal form rows_in 3 args) _
        (look_grows (index_kind form rows_in) (table_arg args) (first_place form rows_in (λ place. is_ge (form.order place.0 (form.of_bytes bytes)))) v))))
    index_fine index.UpperBound = fine_reading M (key_bytes form rows_in 3 args m) left _ (λ bytes.
        fine_reading M (bytes_from (after_key form rows_in 3) 8 args m) left _ (λ others. fine_now M left _ (leaving_unless M (key_refusal form rows_in 3 args) _
        (look_grows (index_kind form rows_in) (table_arg args) (first_place form rows_in (λ place. is_gt (form.order place.0 (form.of_bytes bytes)))) v))))
    index_fine index.End = fine_now M left _
        (look_grows (index_kind form rows_in) (table_arg args) (λ found. None) v)

-- ---- all other calls

-- the run is in its mode
abbrev pub InMode : Mode → SysView → Type 0
InMode run v = v.run.mode ≡ run

module _ (packed : List ℕ) (v : SysView) (args : List ℕ) (m : LinearMemory) (left : ℕ) where
  abbrev K : SysView → Type 0
  K = InMode v.run.mode

  abbrev F : Outcome SysView Failure → Type 0
  F = Fine K left

  reads : (bytes : Option (List ℕ)) (go : List ℕ → Outcome SysView Failure) → ((b : List ℕ) → F (go b)) → F (reading bytes left go)
  reads bytes go h = fine_reading K bytes left go h

  pays : (moved : ℕ) (reply : Reply SysView Failure) → Leaving K reply → F (paying moved left reply)
  pays moved reply h = fine_paying K moved left reply h

  now : (reply : Reply SysView Failure) → Leaving K reply → F (record { reply = reply; left = left })
  now reply h = fine_now K left reply h

  asserts : (failing : Outcome SysView Failure) → F failing → F (if arg32 args 0 == 0 then failing else (record { reply = nothing v m; left = left }))
  asserts failing h = either F (arg32 args 0 == 0) _ _ h (now _ refl)

  -- a range of 16 bytes for the answer
  wide : (go : List ℕ → Reply SysView Failure) → ((b : List ℕ) → Leaving K (go b)) →
      F (reading (bytes_from 0 16 args m) left (λ b. record { reply = go b; left = left }))
  wide go h = reads (bytes_from 0 16 args m) _ (λ b. now (go b) (h b))

  -- two ranges of n bytes
  pairs : (go : List ℕ → List ℕ → Outcome SysView Failure) → ((a b : List ℕ) → F (go a b)) →
      F (reading (bytes_from 0 (arg32 args 2) args m) left (λ a. reading (bytes_from 1 (arg32 args 2) args m) left (λ b. go a b)))
  pairs go h = reads (bytes_from 0 (arg32 args 2) args m) _ (λ a. reads (bytes_from 1 (arg32 args 2) args m) _ (λ b. h a b))

  digests : (go : List ℕ → List ℕ → Outcome SysView Failure) → ((a b : List ℕ) → F (go a b)) →
      F (reading (range 0 args m) left (λ a. reading (bytes_from 2 32 args m) left (λ b. go a b)))
  digests go h = reads (range 0 args m) _ (λ a. reads (bytes_from 2 32 args m) _ (λ b. h a b))

  sent_kept : (r : Result Action PackFault) → Leaving K (sent r v m)
  sent_kept (Err f) = tt
  sent_kept (Ok a) = leaving_unless K (sending_refusal a v) _ refl

  quota_kept : (refusal : Option WriteError) (c : Change) → Leaving K (quota_set refusal c v m)
  quota_kept None c = refl
  quota_kept (Some e) c = tt

  pub sys_fine : (c : SysCall) → F (sys_call packed c v args m left)
  sys_fine sys.Abort = record { falls = omega arith; reply = tt }
  sys_fine sys.Exit = now _ refl
  sys_fine sys.Assert = asserts _ (reads (text 1 args m) _ (λ b. pays (length b) _ tt))
  sys_fine sys.AssertMessage = asserts _ (reads (range 1 args m) _ (λ b. pays (length b) _ tt))
  sys_fine sys.AssertCode = asserts _ (record { falls = omega arith; reply = tt })
  sys_fine sys.CurrentReceiver = now _ refl
  sys_fine sys.GetSender = now _ refl
  sys_fine sys.ActionDataSize = now _ refl
  sys_fine sys.ReadActionData = reads (range 0 args m) _ (λ b. pays _ _ refl)
  sys_fine sys.TransactionSize = now _ refl
  sys_fine sys.ReadTransaction = reads (range 0 args m) _ (λ b. pays _ _ refl)
  sys_fine sys.Expiration = now _ refl
  sys_fine sys.TaposBlockNum = now _ refl
  sys_fine sys.TaposBlockPrefix = now _ refl
  sys_fine sys.CurrentTime = now _ refl
  sys_fine sys.PublicationTime = now _ refl
  sys_fine sys.RequireAuth = now _ (either (Leaving K) (is_actor (name_arg args 0) v.run.action) _ _ refl tt)
  sys_fine sys.RequireAuth2 = now _ (either (Leaving K) (has_level (record { actor = name_arg args 0; permission = name_arg args 1 }) v.run.action) _ _ refl tt)
  sys_fine sys.HasAuth = now _ refl
  sys_fine sys.IsAccount = now _ refl
  sys_fine sys.IsPrivileged = now _ (leaving_unless K (asking_refusal (name_arg args 0) v) _ refl)
  sys_fine sys.RequireRecipient = now _ (either (Leaving K) (is_account (name_arg args 0) v.world) _ _
      (either (λ (r : RunContext). r.mode ≡ v.run.mode) (is_notified (name_arg args 0) v.run) _ _ refl refl) tt)
  sys_fine sys.SendInline = reads (range 0 args m) _ (λ b. pays (length b) _ (sent_kept (whole action b)))
  sys_fine sys.Prints = reads (text 0 args m) _ (λ b. pays (length b) _ refl)
  sys_fine sys.PrintsL = reads (range 0 args m) _ (λ b. pays (length b) _ refl)
  sys_fine sys.PrintHex = reads (range 0 args m) _ (λ b. pays (length b) _ refl)
  sys_fine sys.PrintI = now _ refl
  sys_fine sys.PrintUi = now _ refl
  sys_fine sys.PrintN = now _ refl
  sys_fine sys.PrintI128 = wide _ (λ b. refl)
  sys_fine sys.PrintUi128 = wide _ (λ b. refl)
  sys_fine sys.Memcpy = pairs _ (λ a b. pays (length b) _ (either (Leaving K) (nat_lt (abs_diff (arg32 args 0) (arg32 args 1)) (arg32 args 2)) _ _ tt refl))
  sys_fine sys.Memmove = pairs _ (λ a b. pays (length b) _ refl)
  sys_fine sys.Memset = reads (bytes_from 0 (arg32 args 2) args m) _ (λ b. pays (length b) _ refl)
  sys_fine sys.Memcmp = pairs _ (λ a b. pays (length a) _ refl)
  sys_fine sys.Sha256 = digests _ (λ a b. pays (length a) _ refl)
  sys_fine sys.AssertSha256 = digests _ (λ a b. pays (length a) _ (either (Leaving K) (bytes_eq (sha256 a) b) _ _ refl tt))
  sys_fine sys.Multi3 = wide _ (λ b. refl)
  sys_fine sys.DivTi3 = wide _ (λ b. either (Leaving K) (wide_arg args 3 == 0) _ _ tt refl)
  sys_fine sys.UdivTi3 = wide _ (λ b. either (Leaving K) (wide_arg args 3 == 0) _ _ tt refl)
  sys_fine sys.ModTi3 = wide _ (λ b. either (Leaving K) (wide_arg args 3 == 0) _ _ tt refl)
  sys_fine sys.UmodTi3 = wide _ (λ b. either (Leaving K) (wide_arg args 3 == 0) _ _ tt refl)
  sys_fine sys.AshlTi3 = wide _ (λ b. refl)
  sys_fine sys.AshrTi3 = wide _ (λ b. refl)
  sys_fine sys.LshlTi3 = wide _ (λ b. refl)
  sys_fine sys.LshrTi3 = wide _ (λ b. refl)
  sys_fine sys.SetResourceLimits = now _ (leaving_writing K v.run.mode _ _ (leaving_unless K (limits_refusal args v) _ (quota_kept _ _)))
  sys_fine sys.SetActionReturnValue = reads (range 0 args m) _ (λ b. pays (length b) _ (either (Leaving K) (nat_lt most_return (length b)) _ _ tt refl))

-- ---- all of them

-- how a call leaves what a run sees
pub record Goes (old new : Seen) : Type 0 where
  pub rows : Grows old.lists.rows new.lists.rows
  pub index64 : Grows old.lists.index64 new.lists.index64
  pub index128 : Grows old.lists.index128 new.lists.index128
  pub index256 : Grows old.lists.index256 new.lists.index256
  pub mode : new.run.mode ≡ old.run.mode
  pub packed : new.packed ≡ old.packed

module _ (s : Seen) where
  goes_rows : (v : RowView) → Met s.lists.rows v → Goes s (with_rows s v)
  goes_rows v h = record {
    rows = h;
    index64 = same_grows s.lists.index64;
    index128 = same_grows s.lists.index128;
    index256 = same_grows s.lists.index256;
    mode = refl;
    packed = refl;
  }

  goes_index64 : (v : RowView) → Met s.lists.index64 v → Goes s (with_index64 s v)
  goes_index64 v h = record {
    rows = same_grows s.lists.rows;
    index64 = h;
    index128 = same_grows s.lists.index128;
    index256 = same_grows s.lists.index256;
    mode = refl;
    packed = refl;
  }

  goes_index128 : (v : RowView) → Met s.lists.index128 v → Goes s (with_index128 s v)
  goes_index128 v h = record {
    rows = same_grows s.lists.rows;
    index64 = same_grows s.lists.index64;
    index128 = h;
    index256 = same_grows s.lists.index256;
    mode = refl;
    packed = refl;
  }

  goes_index256 : (v : RowView) → Met s.lists.index256 v → Goes s (with_index256 s v)
  goes_index256 v h = record {
    rows = same_grows s.lists.rows;
    index64 = same_grows s.lists.index64;
    index128 = same_grows s.lists.index128;
    index256 = h;
    mode = refl;
    packed = refl;
  }

  goes_sys : (v : SysView) → InMode s.run.mode v → Goes s (with_sys s v)
  goes_sys v h = record {
    rows = same_grows s.lists.rows;
    index64 = same_grows s.lists.index64;
    index128 = same_grows s.lists.index128;
    index256 = same_grows s.lists.index256;
    mode = h;
    packed = refl;
  }

  pub intrinsic_fine : (c : Option Intrinsic) (args : List ℕ) (m : LinearMemory) (left : ℕ) →
      Fine (Goes s) left (intrinsic c s args m left)
  intrinsic_fine (Some (group.Sys c)) args m left =
      fine_mapped (InMode s.run.mode) (Goes s) (with_sys s) goes_sys left _ (sys_fine s.packed (sys_of s) args m left c)
  intrinsic_fine (Some (group.Row c)) args m left =
      fine_mapped (Met s.lists.rows) (Goes s) (with_rows s) goes_rows left _ (row_fine s.run (rows_of s) args m left c)
  intrinsic_fine (Some (group.Index64 c)) args m left =
      fine_mapped (Met s.lists.index64) (Goes s) (with_index64 s) goes_index64 left _
      (index_fine s.run (index64_of s) args m left key64 rows64 c)
  intrinsic_fine (Some (group.Index128 c)) args m left =
      fine_mapped (Met s.lists.index128) (Goes s) (with_index128 s) goes_index128 left _
      (index_fine s.run (index128_of s) args m left key128 rows128 c)
  intrinsic_fine (Some (group.Index256 c)) args m left =
      fine_mapped (Met s.lists.index256) (Goes s) (with_index256 s) goes_index256 left _
      (index_fine s.run (index256_of s) args m left key256 rows256 c)
  intrinsic_fine None args m left = record { falls = omega arith; reply = tt }
