-- A row that is removed: its place in the list stays, and in the map it goes.
use Rattle.std.proofs.Common.{◌≡◌, ℕ, zero, suc, ◌<◌, ◌⊎◌, inl, inr, Bool, true, false, true≢false, cond, List, [], ◌∷◌, length, get_or, Option, Some, None, slice_get, slice_set, ℤ, pos, negsuc, nat_abs, refl, sym, ap, ◌∙◌, Ordering, Less, Equal, Greater, is_eq, arith}
use Rattle.std.proofs.lemmas.Option.{slice_get_within, slice_get_read}
use Rattle.std.specs.BTreeMap.{BTreeMap, get}
use Rattle.ante_pack.specs.declared.names.TableKey.{TableKey}
use Rattle.ante_state.specs.declared.tables.RowKey.{RowKey}
use Rattle.ante_state.specs.Orders.{row_order}
use Rattle.ante_itercache.specs.declared.met.MetRow.{MetRow}
use Rattle.ante_itercache.specs.Iterators.{Iterators, dead_at, where_live, live_row, row_removed}
use Rattle.ante_itercache.specs.Places.{HasPlaces, live_at}
use Rattle.ante_itercache.proofs.Places.{some_none, inside}
use Rattle.ante_itercache.proofs.Keys.{row_ties, row_itself, live_apart}

abbrev pub dead : MetRow → MetRow
dead r = record { table = r.table; primary = r.primary; live = false }

pub dead_is_set : (rows : List MetRow) (n : ℕ) (r : MetRow) → slice_get rows n ≡ Some r → dead_at n rows ≡ slice_set rows n (dead r)
dead_is_set [] n r h = absurd (some_none r (sym h))
dead_is_set (x ∷ rows) zero r h = ap (λ x. dead x ∷ rows) (inside x r h)
dead_is_set (x ∷ rows) (suc n) r h = ap (λ rest. x ∷ rest) (dead_is_set rows n r h)

pub set_is_dead : (rows : List MetRow) (n : ℕ) (r : MetRow) → n < length rows → r ≡ get_or rows n r → slice_set rows n (dead r) ≡ dead_at n rows
set_is_dead rows n r within is = sym (dead_is_set rows n r (slice_get_read rows (length rows) n r refl within is))

-- a row that isn't live stays as it is
pub dead_stays : (rows : List MetRow) (n : ℕ) → where_live (slice_get rows n) ≡ None → dead_at n rows ≡ rows
dead_stays [] n h = refl
dead_stays (x ∷ rows) zero h = from x.live refl h
  where
    from : (b : Bool) → x.live ≡ b → cond {A = Option (TableKey × ℕ)} b (Some (x.table, x.primary)) None ≡ None → dead x ∷ rows ≡ x ∷ rows
    from true e h = absurd (some_none _ h)
    from false e h = λ i. record { table = x.table; primary = x.primary; live = sym e i } ∷ rows
dead_stays (x ∷ rows) (suc n) h = ap (λ rest. x ∷ rest) (dead_stays rows n h)

kept_else : (rows : List MetRow) (n k : ℕ) (x : MetRow) → slice_get rows k ≡ Some x → (k ≡ n) ⊎ (slice_get (dead_at n rows) k ≡ Some x)
kept_else [] n k x h = absurd (some_none x (sym h))
kept_else (r ∷ rows) zero zero x h = inl refl
kept_else (r ∷ rows) zero (suc k) x h = inr h
kept_else (r ∷ rows) (suc n) zero x h = inr h
kept_else (r ∷ rows) (suc n) (suc k) x h = on (kept_else rows n k x h)
  where
    on : (k ≡ n) ⊎ (slice_get (dead_at n rows) k ≡ Some x) → (suc k ≡ suc n) ⊎ (slice_get (dead_at n rows) k ≡ Some x)
    on (inl e) = inl (ap suc e)
    on (inr at) = inr at

still_live : (rows : List MetRow) (n k : ℕ) (x : MetRow) → slice_get (dead_at n rows) k ≡ Some x → x.live ≡ true → (slice_get rows k ≡ Some x) × (k ≡ n → ⊥)
still_live [] n k x h live = absurd (some_none x (sym h))
still_live (r ∷ rows) zero zero x h live = absurd (true≢false (sym live ∙ sym (ap (λ x. x.live) (inside (dead r) x h))))
still_live (r ∷ rows) zero (suc k) x h live = (h, λ e. absurd (omega arith))
still_live (r ∷ rows) (suc n) zero x h live = (h, λ e. absurd (omega arith))
still_live (r ∷ rows) (suc n) (suc k) x h live = let s = still_live rows n k x h live in (s.0, λ e. s.1 (omega arith))

pub place_removed : (m n : BTreeMap RowKey ℕ) (rows : List MetRow) (key : RowKey) (place : ℕ) → HasPlaces row_order live_at m rows → slice_get rows place ≡ Some (live_at key) → ((q : RowKey) → get row_order n q ≡ cond (is_eq (row_order key q)) None (get row_order m q)) → HasPlaces row_order live_at n (dead_at place rows)
unfolding HasPlaces
place_removed m n rows key place h here updates = λ q k. (λ is. there q k (row_order key q) refl (sym (updates q) ∙ is), λ at. back q k (still_live rows place k (live_at q) at refl))
  where
    elsewhere : (q : RowKey) (k : ℕ) → (row_order key q ≡ Equal → ⊥) → get row_order m q ≡ Some k → slice_get (dead_at place rows) k ≡ Some (live_at q)
    elsewhere q k apart is = on (kept_else rows place k (live_at q) ((h q k).0 is))
      where
        on : (k ≡ place) ⊎ (slice_get (dead_at place rows) k ≡ Some (live_at q)) → slice_get (dead_at place rows) k ≡ Some (live_at q)
        on (inl e) =
            let same : live_at key ≡ live_at q = inside _ _ (sym here ∙ ap (slice_get rows) (sym e) ∙ (h q k).0 is) in
            absurd (apart (ap (row_order key) (sym (live_apart key q same)) ∙ row_itself key))
        on (inr at) = at

    there : (q : RowKey) (k : ℕ) (r : Ordering) → row_order key q ≡ r → cond (is_eq r) None (get row_order m q) ≡ Some k → slice_get (dead_at place rows) k ≡ Some (live_at q)
    there q k Less e is = elsewhere q k (λ f. absurd (true≢false (sym (ap is_eq (sym e ∙ f))))) is
    there q k Greater e is = elsewhere q k (λ f. absurd (true≢false (sym (ap is_eq (sym e ∙ f))))) is
    there q k Equal e is = absurd (some_none k (sym is))

    other : (q : RowKey) (k : ℕ) (r : Ordering) → row_order key q ≡ r → (k ≡ place → ⊥) → get row_order m q ≡ Some k → cond (is_eq r) None (get row_order m q) ≡ Some k
    other q k Less e apart is = is
    other q k Greater e apart is = is
    other q k Equal e apart is = absurd (apart (inside _ _ (sym is ∙ ap (get row_order m) (sym (row_ties key q e)) ∙ (h key place).1 here)))

    back : (q : RowKey) (k : ℕ) → (slice_get rows k ≡ Some (live_at q)) × (k ≡ place → ⊥) → get row_order n q ≡ Some k
    back q k s = updates q ∙ other q k (row_order key q) refl s.1 ((h q k).1 s.0)

-- ---- by the row's number

pub nothing_removed : (value : ℤ) (i : Iterators) → live_row value i ≡ None → i ≡ row_removed value i
nothing_removed (pos n) i h = ap (λ rows. record { tables = i.tables; rows = rows }) (sym (dead_stays i.rows n h))
nothing_removed (negsuc n) i h = refl

live_place : (o : Option MetRow) (table : TableKey) (primary : ℕ) → where_live o ≡ Some (table, primary) → o ≡ Some (record { table = table; primary = primary; live = true })
live_place None table primary h = absurd (some_none _ (sym h))
live_place (Some r) table primary h = from r.live refl h
  where
    from : (b : Bool) → r.live ≡ b → cond {A = Option (TableKey × ℕ)} b (Some (r.table, r.primary)) None ≡ Some (table, primary) → Some r ≡ Some (record { table = table; primary = primary; live = true })
    from true e h =
        let same : (r.table, r.primary) ≡ (table, primary) = inside _ _ h in
        λ i. Some (record { table = (same i).0; primary = (same i).1; live = e i })
    from false e h = absurd (some_none _ (sym h))

-- the live row with a number stands at that place
pub live_row_place : (value : ℤ) (i : Iterators) (table : TableKey) (primary : ℕ) → live_row value i ≡ Some (table, primary) → (k : ℕ) → k ≡ nat_abs value → slice_get i.rows k ≡ Some (record { table = table; primary = primary; live = true })
live_row_place (pos n) i table primary h k e = ap (slice_get i.rows) e ∙ live_place (slice_get i.rows n) table primary h
live_row_place (negsuc n) i table primary h k e = absurd (some_none _ (sym h))

pub removed_place : (value : ℤ) (i : Iterators) (table : TableKey) (primary : ℕ) → live_row value i ≡ Some (table, primary) → (k : ℕ) → k ≡ nat_abs value → row_removed value i ≡ record { tables = i.tables; rows = dead_at k i.rows }
removed_place (pos n) i table primary h k e = ap (λ k. record { tables = i.tables; rows = dead_at k i.rows }) (sym e)
removed_place (negsuc n) i table primary h k e = absurd (some_none _ (sym h))

pub live_row_within : (value : ℤ) (i : Iterators) (table : TableKey) (primary : ℕ) → live_row value i ≡ Some (table, primary) → (k : ℕ) → k ≡ nat_abs value → k < length i.rows
live_row_within value i table primary h k e = slice_get_within i.rows k _ (live_row_place value i table primary h k e)

-- ---- no list grows

length_dead : (n : ℕ) (rows : List MetRow) → length (dead_at n rows) ≡ length rows
length_dead n [] = refl
length_dead zero (r ∷ rows) = refl
length_dead (suc n) (r ∷ rows) = ap suc (length_dead n rows)

pub rows_removed : (value : ℤ) (i : Iterators) → length (row_removed value i).rows ≡ length i.rows
rows_removed (pos n) i = length_dead n i.rows
rows_removed (negsuc n) i = refl

pub tables_removed : (value : ℤ) (i : Iterators) → (row_removed value i).tables ≡ i.tables
tables_removed (pos n) i = refl
tables_removed (negsuc n) i = refl
