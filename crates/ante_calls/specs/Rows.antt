-- What the calls on the rows of a table do, without their arguments' places in memory: the answer, the state and the iterators after it, or
-- the first refusal. Each is written once for primary rows and for the rows of the three indexes.
use Rattle.std.specs.Prelude.{ℕ, ◌==◌, ℤ, int_lt, Bool, true, false, not, ◌&&◌, ◌||◌, List, Option, None, Some, is_some, option_map, Result, Ok, Err, if◌then◌else◌}
use Rattle.std.specs.FinMap.Entries.{find}
use Rattle.ante_undo.specs.Entries.{entry_after, entry_before, last_entry}
use Rattle.ante_pack.specs.declared.names.Name.{Name}
use Rattle.ante_pack.specs.declared.names.TableKey.{TableKey}
use Rattle.ante_state.specs.Orders.{table_order}
use Rattle.ante_types.specs.declared.context.RunContext.{RunContext}
use Rattle.ante_types.specs.declared.context.Mode.{Mode}
use Rattle.ante_types.specs.declared.context.Mode.TheVariants as mode
use Rattle.ante_types.specs.World.{World}
use Rattle.ante_store.specs.declared.change.Change.{Change}
use Rattle.ante_store.specs.declared.change.WriteError.{WriteError}
use Rattle.ante_store.specs.declared.change.WriteError.TheVariants as error
use Rattle.ante_store.specs.Changes.{after, refusal}
use Rattle.ante_calls.specs.declared.faults.DbFault.{DbFault}
use Rattle.ante_calls.specs.declared.faults.DbFault.TheVariants as fault
use Rattle.ante_calls.specs.Accounts.{same_name, is_account, may_bill}
use Rattle.ante_itercache.specs.Iterators.{Iterators, no_iterator, meet_table, end_table, meet_row, live_row, row_removed}
use Rattle.ante_calls.specs.Kinds.{Kind}
use Rattle.ante_calls.specs.Views.{RowView}

-- the answer with what the run sees then, or why the call is refused: then the state stands as before
abbrev pub Answer : Type 0 → Type 0
Answer A = Result (A × RowView) DbFault

abbrev pub then_do : {A B : Type 0} → Result A DbFault → (A → Result B DbFault) → Result B DbFault
then_do (Ok a) go = go a
then_do (Err f) go = Err f

abbrev pub unless : {A : Type 0} → Option DbFault → Answer A → Answer A
unless (Some f) answer = Err f
unless None answer = answer

-- in reading mode a call that writes is refused before all else
abbrev pub writing : {A : Type 0} → Mode → Answer A → Answer A
writing mode.Reading answer = Err fault.WriteRefused
writing mode.Writing answer = answer

-- why the state doesn't take a change: `misplaced` where the row is there already, or isn't there
abbrev pub write_fault : (misplaced : DbFault) → WriteError → DbFault
write_fault misplaced error.OutOfMemory = fault.OutOfMemory
write_fault misplaced error.WriteRefused = fault.WriteRefused
write_fault misplaced error.RamTotal = fault.RamTotal
write_fault misplaced error.Missing = misplaced
write_fault misplaced error.Exists = misplaced

-- the state after the change, if it takes it
abbrev pub changed : (misplaced : DbFault) → Option WriteError → Change → World → Result World DbFault
changed misplaced (Some e) c w = Err (write_fault misplaced e)
changed misplaced None c w = Ok (after c w)

abbrev pub make : (misplaced : DbFault) → Change → World → Result World DbFault
make misplaced c w = changed misplaced (refusal c w) c w

abbrev pub has_table : TableKey → World → Bool
has_table key w = is_some (find table_order key w.tables)

abbrev pub some_or : {A : Type 0} → DbFault → Option A → Result A DbFault
some_or f None = Err f
some_or f (Some a) = Ok a

-- what is met, and the view with it
abbrev pub met : {A : Type 0} → (ℤ → A) → ℤ × Iterators → World → A × RowView
met answer i w = (answer i.0, record { world = w; iters = i.1 })

module _ {P R V : Type 0} (kind : Kind P R V) where
  -- ---- looking for a row

  abbrev pub place_of : Option (P × R) → Option P
  place_of found = option_map (λ e. e.0) found

  -- the row's number, or the table's end iterator
  abbrev pub row_or_end : TableKey → Option P → ℤ × Iterators → ℤ × Iterators
  row_or_end key None i = i
  row_or_end key (Some place) i = meet_row key (kind.primary place) i.1

  abbrev pub looked_for : (there : Bool) → TableKey → Option P → RowView → (ℤ × Option P) × RowView
  looked_for false key found v = ((no_iterator, None), v)
  looked_for true key found v = met (λ it. (it, found)) (row_or_end key found (meet_table key v.iters)) v.world

  -- The table is met where it is there, and so is the row that is found in it.
  abbrev pub look_for : TableKey → (List (P × R) → Option P) → RowView → (ℤ × Option P) × RowView
  look_for key search v = looked_for (has_table key v.world) key (search (kind.rows key v.world)) v

  -- the end iterator of the table
  abbrev pub end : TableKey → RowView → ℤ × RowView
  end key v = let r = look_for key (λ rows. None) v in (r.0.0, r.1)

  -- ---- neighbours: the next row's iterator and primary key, or the end iterator; the previous row's, or -1

  abbrev pub next_met : TableKey → Option P → RowView → (ℤ × Option ℕ) × RowView
  next_met key None v = met (λ it. (it, None)) (meet_table key v.iters) v.world
  next_met key (Some place) v = met (λ it. (it, Some (kind.primary place))) (meet_row key (kind.primary place) v.iters) v.world

  abbrev pub previous_met : TableKey → Option P → RowView → (ℤ × Option ℕ) × RowView
  previous_met key None v = ((no_iterator, None), v)
  previous_met key (Some place) v = met (λ it. (it, Some (kind.primary place))) (meet_row key (kind.primary place) v.iters) v.world

  -- the table and the place of the live row with this number
  abbrev pub standing : ℤ → RowView → Result (TableKey × P) DbFault
  standing it v =
      then_do (some_or (fault.BadIterator it) (live_row it v.iters)) (λ r.
      then_do (some_or (fault.BadIterator it) (kind.place r.0 r.1 v.world)) (λ place. Ok (r.0, place)))

  abbrev pub next : ℤ → RowView → Answer (ℤ × Option ℕ)
  next it v = if int_lt it no_iterator then Ok ((no_iterator, None), v)
      else then_do (standing it v) (λ s. Ok (next_met s.0 (place_of (entry_after kind.order s.1 (kind.rows s.0 v.world))) v))

  abbrev pub before_end : Option TableKey → ℤ → RowView → Answer (ℤ × Option ℕ)
  before_end None it v = Err (fault.BadIterator it)
  before_end (Some key) it v = Ok (previous_met key (place_of (last_entry (kind.rows key v.world))) v)

  abbrev pub previous : ℤ → RowView → Answer (ℤ × Option ℕ)
  previous it v = if int_lt it no_iterator then before_end (end_table it v.iters) it v
      else then_do (standing it v) (λ s. Ok (previous_met s.0 (place_of (entry_before kind.order s.1 (kind.rows s.0 v.world))) v))

  -- ---- storing

  abbrev pub store_refusal : RunContext → TableKey → Name → ℕ → World → Option DbFault
  store_refusal run key payer primary w =
      if payer.0 == 0 then Some (fault.BadPayer payer)
      else if not (is_account payer w) then Some (fault.UnknownAccount payer)
      else if is_some (kind.row key primary w) then Some (fault.KeyExists primary)
      else if not (may_bill payer run) then Some (fault.BadPayer payer)
      else None

  abbrev pub stored : TableKey → ℕ → Iterators → World → ℤ × RowView
  stored key primary iters w = met (λ it. it) (meet_row key primary (meet_table key iters).1) w

  -- A row of the receiver's own. The answer is its iterator; the table is met with it.
  abbrev pub store : RunContext → (scope table payer : Name) → (primary : ℕ) → V → RowView → Answer ℤ
  store run scope table payer primary value v =
      let key : TableKey = record { code = run.receiver; scope = scope; table = table } in
      writing run.mode (unless (store_refusal run key payer primary v.world)
      (then_do (make (fault.KeyExists primary) (kind.storing key primary payer value) v.world) (λ w. Ok (stored key primary v.iters w))))

  -- ---- updating and removing

  -- the live row with this number, which must be of the receiver's own
  abbrev pub own_row : RunContext → ℤ → Iterators → Result (TableKey × ℕ) DbFault
  own_row run it iters =
      then_do (some_or (fault.BadIterator it) (live_row it iters)) (λ r. if same_name r.0.code run.receiver then Ok r else Err (fault.NotOwner r.0.code))

  -- the empty name keeps the payer
  abbrev pub new_payer : Name → R → Name
  new_payer payer row = if payer.0 == 0 then kind.payer row else payer

  abbrev pub update_refusal : RunContext → Name → R → V → World → Option DbFault
  update_refusal run payer row value w =
      if not (payer.0 == 0) && not (is_account payer w) then Some (fault.UnknownAccount payer)
      else if (not (same_name (new_payer payer row) (kind.payer row)) || kind.grows row value) && not (may_bill (new_payer payer row) run)
      then Some (fault.BadPayer (new_payer payer row))
      else None

  abbrev pub update : RunContext → ℤ → (payer : Name) → V → RowView → Answer (Unit {0})
  update run it payer value v =
      writing run.mode (then_do (own_row run it v.iters) (λ r.
      then_do (some_or (fault.BadIterator it) (kind.row r.0 r.1 v.world)) (λ row.
      unless (update_refusal run payer row value v.world)
      (then_do (make (fault.BadIterator it) (kind.updating r.0 r.1 (new_payer payer row) value) v.world) (λ w.
      Ok (tt, record { world = w; iters = v.iters }))))))

  -- its number isn't that of a live row any more
  abbrev pub remove : RunContext → ℤ → RowView → Answer (Unit {0})
  remove run it v =
      writing run.mode (then_do (own_row run it v.iters) (λ r.
      then_do (make (fault.BadIterator it) (kind.removing r.0 r.1) v.world) (λ w. Ok (tt, record { world = w; iters = row_removed it v.iters }))))
