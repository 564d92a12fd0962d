-- The page that a walk has given when it stops.
use Rattle.std.proofs.Common.{◌≡◌, ℕ, zero, suc, ◌+◌, ◌-◌, ◌<◌, ◌≤◌, ◌==◌, ◌⊎◌, inl, inr, Bool, true, false, true≢false, cond, if◌then◌else◌, ◌&&◌, ◌||◌, nat_lt, nat_le, List, [], ◌∷◌, ◌++◌, length, map, take, drop, Option, Some, None, is_some, option_map, refl, sym, ap, subst, ◌∙◌, arith}
use Rattle.std.specs.List.{slice_get, sum_by}
use Rattle.std.proofs.lemmas.Bool.Decides.{nat_tests}
use Rattle.std.proofs.lemmas.List.{length-take-le}
use Rattle.std.proofs.lemmas.Option.{slice_get_within}
use Rattle.std.proofs.lemmas.List.Sums.{sum_by-append, sum_by-cons, sum_by-take-le}
use Rattle.ante_undo.specs.Entries.{first_entry}
use Rattle.ante_state.specs.declared.tables.PrimaryRow.{PrimaryRow}
use Rattle.ante_views.specs.declared.answers.ViewAnswer.TheVariants as answers
use Rattle.ante_answers.specs.Answers.{bytes_of, fits, most_bytes, page, next_row, rows_answer}
use Rattle.ante_answers.specs.Walks.{Follows, IsFront}
use Rattle.ante_answers.proofs.Rising.{none_is_some}
use Rattle.ante_answers.proofs.Fronts.{there, one_more, at_end, longer, front_begins, front_grows}

abbrev Rows : Type 0
Rows = List (ℕ × PrimaryRow)

take_take : (m k : ℕ) (rows : Rows) → m ≤ k → take m (take k rows) ≡ take m rows
take_take zero k rows le = refl
take_take (suc m) zero rows le = absurd (omega (arith, le))
take_take (suc m) (suc k) [] le = refl
take_take (suc m) (suc k) (row ∷ rows) le = ap (λ rows. row ∷ rows) (take_take m k rows (omega (arith, le)))

shorter : (m : ℕ) (rows : Rows) → length (take m rows) ≤ length rows
shorter zero rows = omega arith
shorter (suc m) [] = omega arith
shorter (suc m) (row ∷ rows) = let rest = shorter m rows in omega (arith, rest)

-- a longer front than one that doesn't fit doesn't fit
stays_over : (a b n m : ℕ) → a ≤ b → n ≤ m → (nat_le a 1 || nat_le n most_bytes) ≡ false → (nat_le b 1 || nat_le m most_bytes) ≡ false
stays_over a b n m h g over = grind (arith, nat_tests)

over_stays : (m k : ℕ) (rows : Rows) → m ≤ k → fits (take m rows) ≡ false → fits (take k rows) ≡ false
over_stays m k rows le over =
    stays_over (length (take m rows)) (length (take k rows)) (bytes_of (take m rows)) (bytes_of (take k rows))
    (subst (λ front. length front ≤ length (take k rows)) (take_take m k rows le) (shorter m (take k rows)))
    (subst (λ front. bytes_of front ≤ bytes_of (take k rows)) (take_take m k rows le) (sum_by-take-le (λ row. length row.1.bytes) (take k rows) m)) over

-- a front of as many rows as are asked for
pub page_full : (n : ℕ) (rows : Rows) → fits (take n rows) ≡ true → page n rows ≡ take n rows
page_full zero rows fit = refl
page_full (suc n) rows fit = ap (λ b. cond b (take (suc n) rows) (page n rows)) fit

-- a front that fits, where one row more would not
pub page_over : (limit n : ℕ) (rows : Rows) → n ≤ limit → fits (take n rows) ≡ true → fits (take (suc n) rows) ≡ false → page limit rows ≡ take n rows
page_over zero n rows le fit over = let none : n ≡ 0 = omega (arith, le) in sym (ap (λ n. take n rows) none)
page_over (suc limit) n rows le fit over = by (nat_le n limit) refl (page_over limit n rows)
  where
    by : (b : Bool) → nat_le n limit ≡ b → (n ≤ limit → fits (take n rows) ≡ true → fits (take (suc n) rows) ≡ false → page limit rows ≡ take n rows) → page (suc limit) rows ≡ take n rows
    by true is rest =
        let below = le_of n limit is in
        ap (λ b. cond b (take (suc limit) rows) (page limit rows)) (over_stays (suc n) (suc limit) rows (omega (arith, below)) over) ∙ rest below fit over
      where
        le_of : (a b : ℕ) → nat_le a b ≡ true → a ≤ b
        le_of a b h = grind (arith, nat_tests)
    by false is rest =
        let last = equal_of n limit le is in
        subst (λ m. page m rows ≡ take n rows) last (page_full n rows fit)
      where
        equal_of : (a b : ℕ) → a ≤ suc b → nat_le a b ≡ false → a ≡ suc b
        equal_of a b le h = grind (arith, nat_tests)

-- all rows, where they fit
pub page_all : (limit n : ℕ) (rows : Rows) → length rows ≤ n → n ≤ limit → fits (take n rows) ≡ true → page limit rows ≡ take n rows
page_all zero n rows all le fit = let none : n ≡ 0 = omega (arith, le) in sym (ap (λ n. take n rows) none)
page_all (suc limit) n rows all le fit =
    ap (λ front. cond (fits front) front (page limit rows)) (ends (suc limit) n rows all le)
    ∙ ap (λ b. cond b (take n rows) (page limit rows)) fit
  where
    ends : (m n : ℕ) (rows : Rows) → length rows ≤ n → n ≤ m → take m rows ≡ take n rows
    ends zero n rows all le = let none : n ≡ 0 = omega (arith, le) in sym (ap (λ n. take n rows) none)
    ends (suc m) zero [] all le = refl
    ends (suc m) (suc n) [] all le = refl
    ends (suc m) zero (row ∷ rows) all le = absurd (omega (arith, all))
    ends (suc m) (suc n) (row ∷ rows) all le = ap (λ rows. row ∷ rows) (ends m n rows (omega (arith, all)) (omega (arith, le)))

-- ---- a page that grows row by row

abbrev pub bytes : ℕ × PrimaryRow → List ℕ
bytes row = row.1.bytes

pub record IsPage (all : Rows) (limit total : ℕ) (given : List (List ℕ)) (coming : Option (ℕ × PrimaryRow)) : Type 0 where
  pub front : IsFront bytes all given coming
  pub total_is : total ≡ bytes_of (take (length given) all)
  pub fit : fits (take (length given) all) ≡ true
  pub few : length given ≤ limit

or_true : (b : Bool) → (b || true) ≡ true
or_true true = refl
or_true false = refl

-- the answer of a page, by its front
answer_is : (all : Rows) (limit : ℕ) (given : List (List ℕ)) (coming : Option (ℕ × PrimaryRow)) → IsFront bytes all given coming → page limit all ≡ take (length given) all
    → answers.Rows (is_some coming) (option_map (λ row. row.0) coming) given ≡ rows_answer limit all
answer_is all limit given coming front is = λ i. answers.Rows (is_some (next i)) (option_map (λ row. row.0) (next i)) (items i)
  where
    next : coming ≡ next_row limit all
    next = sym (ap (λ front. first_entry (drop (length front) all)) is ∙ ap (λ n. first_entry (drop n all)) (length-take-le (length given) all front.within) ∙ sym front.next)

    items : given ≡ map bytes (page limit all)
    items = front.items ∙ sym (ap (map bytes) is)

-- the bytes with one row more, if it is given too
abbrev pub total_with : (count limit total size : ℕ) → Option ℕ
total_with count limit total size = if nat_lt count limit && (count == 0 || nat_le (total + size) most_bytes) then Some (total + size) else None

pub record IsTaken (count limit total size sum : ℕ) : Type 0 where
  pub few : count < limit
  pub fit : (nat_le (suc count) 1 || nat_le sum most_bytes) ≡ true
  pub sum_is : sum ≡ total + size

taken : (count limit total size sum : ℕ) → total_with count limit total size ≡ Some sum → IsTaken count limit total size sum
taken count limit total size sum h = by (nat_lt count limit) (count == 0) (nat_le (total + size) most_bytes) refl refl refl h
  where
    less : nat_lt count limit ≡ true → count < limit
    less is = grind (arith, nat_tests)

    alone : (count == 0) ≡ true → nat_le (suc count) 1 ≡ true
    alone is = grind (arith, nat_tests)

    value : Some (total + size) ≡ Some sum → sum ≡ total + size
    value is = sym (ap (λ o. elim o as (λ _. ℕ) [ None ↦ 0 | Some x ↦ x ]) is)

    by : (a b c : Bool) → nat_lt count limit ≡ a → (count == 0) ≡ b → nat_le (total + size) most_bytes ≡ c → (if a && (b || c) then Some (total + size) else None) ≡ Some sum → IsTaken count limit total size sum
    by true true c p q r h = record { few = less p; fit = ap (λ t. t || nat_le sum most_bytes) (alone q); sum_is = value h }
    by true false true p q r h = record { few = less p; fit = ap (λ t. nat_le (suc count) 1 || t) (ap (λ n. nat_le n most_bytes) (value h) ∙ r) ∙ or_true (nat_le (suc count) 1); sum_is = value h }
    by true false false p q r h = none_is_some sum h
    by false b c p q r h = none_is_some sum h

not_taken : (count limit total size : ℕ) → total_with count limit total size ≡ None → count ≤ limit → (count ≡ limit) ⊎ ((nat_le (suc count) 1 || nat_le (total + size) most_bytes) ≡ false)
not_taken count limit total size h le = by (nat_lt count limit) (count == 0) (nat_le (total + size) most_bytes) refl refl refl h
  where
    full : nat_lt count limit ≡ false → count ≡ limit
    full is = grind (arith, nat_tests)

    several : (count == 0) ≡ false → nat_le (suc count) 1 ≡ false
    several is = grind (arith, nat_tests)

    by : (a b c : Bool) → nat_lt count limit ≡ a → (count == 0) ≡ b → nat_le (total + size) most_bytes ≡ c → (if a && (b || c) then Some (total + size) else None) ≡ None
        → (count ≡ limit) ⊎ ((nat_le (suc count) 1 || nat_le (total + size) most_bytes) ≡ false)
    by true true c p q r h = none_is_some (total + size) (sym h)
    by true false true p q r h = none_is_some (total + size) (sym h)
    by true false false p q r h = inr (ap (λ t. t || nat_le (total + size) most_bytes) (several q) ∙ r)
    by false b c p q r h = inl (full p)

one_row : (f : ℕ × PrimaryRow → ℕ) (rows : Rows) (row : ℕ × PrimaryRow) → sum_by f (rows ++ row ∷ []) ≡ sum_by f rows + f row
one_row f rows row = let alone = sum_by-cons f row [] in sum_by-append f rows (row ∷ []) ∙ omega (arith, alone)

pub page_begins : (all : Rows) (limit : ℕ) (coming : Option (ℕ × PrimaryRow)) → coming ≡ first_entry all → IsPage all limit 0 [] coming
page_begins all limit coming is = record { front = front_begins bytes all coming is; total_is = refl; fit = refl; few = omega arith }

module _ (all : Rows) (limit total : ℕ) (given : List (List ℕ)) (primary : ℕ) (row : PrimaryRow) (p : IsPage all limit total given (Some (primary, row))) where
  place : slice_get all (length given) ≡ Some (primary, row)
  place = there all (length given) (primary, row) p.front.next

  more_bytes : bytes_of (take (suc (length given)) all) ≡ total + length row.bytes
  more_bytes = ap bytes_of (one_more all (length given) (primary, row) place) ∙ one_row (λ row. length row.1.bytes) (take (length given) all) (primary, row) ∙ ap (λ n. n + length row.bytes) (sym p.total_is)

  more_fits : fits (take (suc (length given)) all) ≡ (nat_le (suc (length given)) 1 || nat_le (total + length row.bytes) most_bytes)
  more_fits =
      ap (λ n. nat_le n 1 || nat_le (bytes_of (take (suc (length given)) all)) most_bytes) (length-take-le (suc (length given)) all (let inside = slice_get_within all (length given) (primary, row) place in omega (arith, inside)))
      ∙ ap (λ n. nat_le (suc (length given)) 1 || nat_le n most_bytes) more_bytes

  pub page_grows : (sum : ℕ) (item : List ℕ) (coming : Option (ℕ × PrimaryRow)) → total_with (length given) limit total (length row.bytes) ≡ Some sum → item ≡ row.bytes → Follows all primary coming → IsPage all limit sum (given ++ item ∷ []) coming
  page_grows sum item coming h is follows =
      let t = taken (length given) limit total (length row.bytes) sum h in
      let more = longer bytes given item in
      record {
        front = front_grows bytes all given primary row item coming p.front is follows;
        total_is = t.sum_is ∙ sym more_bytes ∙ sym (ap (λ n. bytes_of (take n all)) more);
        fit = ap (λ n. fits (take n all)) more ∙ more_fits ∙ ap (λ n. nat_le (suc (length given)) 1 || nat_le n most_bytes) (sym t.sum_is) ∙ t.fit;
        few = let few = t.few in omega (arith, few, more);
      }

  page_is : total_with (length given) limit total (length row.bytes) ≡ None → page limit all ≡ take (length given) all
  page_is h = by (not_taken (length given) limit total (length row.bytes) h p.few)
    where
      by : (length given ≡ limit) ⊎ ((nat_le (suc (length given)) 1 || nat_le (total + length row.bytes) most_bytes) ≡ false) → page limit all ≡ take (length given) all
      by (inl full) = subst (λ n. page n all ≡ take (length given) all) full (page_full (length given) all p.fit)
      by (inr over) = page_over limit (length given) all p.few p.fit (more_fits ∙ over)

  pub page_stops : total_with (length given) limit total (length row.bytes) ≡ None → answers.Rows true (Some primary) given ≡ rows_answer limit all
  page_stops h = answer_is all limit given (Some (primary, row)) p.front (page_is h)

pub page_ends : (all : Rows) (limit total : ℕ) (given : List (List ℕ)) → IsPage all limit total given None → answers.Rows false None given ≡ rows_answer limit all
page_ends all limit total given p = answer_is all limit given None p.front (page_all limit (length given) all (at_end all (length given) p.front.next) p.few p.fit)

pub none_yet : (all : Rows) (limit total : ℕ) (given : List (List ℕ)) (coming : Option (ℕ × PrimaryRow)) → IsPage all limit total given coming → length given ≡ 0 → total ≡ 0
none_yet all limit total given coming p none = p.total_is ∙ ap (λ n. bytes_of (take n all)) none

pub more_taken : (limit total size sum : ℕ) (given : List (List ℕ)) (item : List ℕ) → total_with (length given) limit total size ≡ Some sum → limit - length (given ++ item ∷ []) < limit - length given
more_taken limit total size sum given item h =
    let few = (taken (length given) limit total size sum h).few in
    let more = longer bytes given item in
    omega (arith, few, more)
