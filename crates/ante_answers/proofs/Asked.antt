-- The tables that are asked for, looked for from one entry on.
use Rattle.std.proofs.Common.{◌≡◌, ℕ, zero, suc, ◌+◌, ◌<◌, ◌≤◌, ◌==◌, Bool, true, false, true≢false, cond, ◌&&◌, nat_lt, nat_le, T, List, [], ◌∷◌, length, drop, filter, Option, Some, None, is_some, unwrap_or, refl, sym, ap, subst, ◌∙◌, arith, Ordering, Less, Equal, Greater}
use Rattle.std.specs.List.{slice_get, AllByRecursion}
use Rattle.std.specs.Ordering.{nat_cmp, ordering_then, ordering_reverse, is_ge, is_gt, MatchOrdering}
use Rattle.std.specs.Cmp.{IsTotalOrder, ranks}
use Rattle.std.specs.FinMap.Entries.{is_sorted}
use Rattle.std.proofs.lemmas.Bool.Decides.{nat_tests}
use Rattle.ante_undo.specs.Entries.{first_where, first_entry, entry_from, entry_after}
use Rattle.ante_undo.proofs.Entries.{first, second}
use Rattle.ante_sessions.specs.Walk.{past}
use Rattle.ante_sessions.proofs.Past.{after_first, past_next}
use Rattle.ante_pack.specs.declared.names.Name.{Name}
use Rattle.ante_pack.specs.declared.names.TableKey.{TableKey}
use Rattle.ante_state.specs.Orders.{table_order}
use Rattle.ante_state.specs.declared.tables.TableRow.{TableRow}
use Rattle.ante_store.proofs.KeyOrders.{tables_total}
use Rattle.ante_answers.specs.Answers.{not_below, is_named, is_asked, tables_from}
use Rattle.ante_answers.specs.Walks.{rest_from, Follows}
use Rattle.ante_answers.proofs.Rising.{Rising, above, above_once, rises, first_left, first_agrees, first_alike, none_passes, next_left, none_is_some}

greater : (r : Ordering) → is_gt r ≡ true → r ≡ Greater
greater Less h = absurd (true≢false (sym h))
greater Equal h = absurd (true≢false (sym h))
greater Greater h = refl

all_of : {X : Type 0} {P Q : X → Type 0} → ((x : X) → P x → Q x) → (xs : List X) → AllByRecursion P xs → AllByRecursion Q xs
all_of go [] all = tt
all_of go (x ∷ xs) all = (go x all.0, all_of go xs all.1)

module _ {K : Type 0} (cmp : K → K → Ordering) (o : IsTotalOrder cmp) where
  -- what comes after a later key comes after the key
  later_still : (key x y : K) → is_gt (cmp x key) ≡ true → is_gt (cmp y x) ≡ true → is_gt (cmp y key) ≡ true
  later_still key x y h g =
      ap is_gt (o.antisymm y key ∙ ap ordering_reverse (o.trans key x y (o.antisymm key x ∙ ap ordering_reverse (greater _ h)) (o.antisymm x y ∙ ap ordering_reverse (greater _ g))))

  not_below_still : (key x y : K) → is_ge (cmp x key) ≡ true → is_gt (cmp y x) ≡ true → is_ge (cmp y key) ≡ true
  not_below_still key x y h g = by (cmp x key) refl h
    where
      less : cmp x y ≡ Less
      less = o.antisymm x y ∙ ap ordering_reverse (greater _ g)

      by : (r : Ordering) → cmp x key ≡ r → is_ge r ≡ true → is_ge (cmp y key) ≡ true
      by Less is h = absurd (true≢false (sym h))
      by Equal is h = ap is_ge (o.antisymm y key ∙ ap ordering_reverse (sym (o.congr x key y is) ∙ less))
      by Greater is h = ap is_ge (o.antisymm y key ∙ ap ordering_reverse (o.trans key x y (o.antisymm key x ∙ ap ordering_reverse is) less))

module _ {K V : Type 0} (cmp : K → K → Ordering) (o : IsTotalOrder cmp) where
  first_above : (q : K → Bool) (key : K) (es : List (K × V)) (e : K × V) → AllByRecursion (λ x. is_gt (cmp x.0 key) ≡ true) es → first_where q es ≡ Some e → is_gt (cmp e.0 key) ≡ true
  first_above q key [] e all there = none_is_some e there
  first_above q key (x ∷ xs) e all there = by (q x.0) there (first_above q key xs e all.1)
    where
      by : (b : Bool) → cond b (Some x) (first_where q xs) ≡ Some e → (first_where q xs ≡ Some e → is_gt (cmp e.0 key) ≡ true) → is_gt (cmp e.0 key) ≡ true
      by true there rest = let same : x ≡ e = cc in subst (λ e. is_gt (cmp e.0 key) ≡ true) same all.0
      by false there rest = rest there

  -- an entry before it isn't looked at
  rest_of_rest : (x : K × V) (xs : List (K × V)) (next : Option (K × V)) → (q : K → Bool) → AllByRecursion (λ y. is_gt (cmp y.0 x.0) ≡ true) xs → first_where q xs ≡ next → rest_from cmp next (x ∷ xs) ≡ rest_from cmp next xs
  rest_of_rest x xs None q all is = refl
  rest_of_rest x xs (Some e) q all is =
      ap (λ b. e ∷ cond b (x ∷ xs) (past cmp (Some e.0) xs)) (above_once cmp o e.0 x.0 (first_above q x.0 xs e all is))

  -- What passes both tests is found among the entries from the first on that passes the one, where all later ones pass that.
  pub first_rest : (q p : K → Bool) → ((x y : K) → q x ≡ true → is_gt (cmp y x) ≡ true → q y ≡ true) → (es : List (K × V)) → T (is_sorted cmp es)
      → first_where (λ k. q k && p k) es ≡ first_where p (rest_from cmp (first_where q es) es)
  first_rest q p opens [] sorted = refl
  first_rest q p opens (x ∷ xs) sorted = by (q x.0) refl (first_rest q p opens xs (second _ _ sorted))
    where
      above_x : AllByRecursion (λ y. is_gt (cmp y.0 x.0) ≡ true) xs
      above_x = (rises cmp o (x ∷ xs) sorted).0

      by : (b : Bool) → q x.0 ≡ b → first_where (λ k. q k && p k) xs ≡ first_where p (rest_from cmp (first_where q xs) xs)
          → cond (b && p x.0) (Some x) (first_where (λ k. q k && p k) xs) ≡ first_where p (rest_from cmp (cond b (Some x) (first_where q xs)) (x ∷ xs))
      by true is rest =
          ap (λ rest. cond (p x.0) (Some x) rest) (first_alike (λ k. q k && p k) p xs (all_of (λ y later. ap (λ b. b && p y.0) (opens x.0 y.0 is later)) xs above_x))
          ∙ ap (λ rest. cond (p x.0) (Some x) (first_where p rest)) (sym (past_next cmp o None (x ∷ xs) x xs sorted refl))
      by false is rest = rest ∙ ap (first_where p) (sym (rest_of_rest x xs (first_where q xs) q above_x refl))

  -- from the entry after a key on, all comes past the key
  rest_is_past : (key : K) (es : List (K × V)) → T (is_sorted cmp es) → rest_from cmp (entry_after cmp key es) es ≡ past cmp (Some key) es
  rest_is_past key es sorted = ap (λ next. rest_from cmp next es) (after_first cmp key es) ∙ from (past cmp (Some key) es) refl
    where
      from : (rest : List (K × V)) → past cmp (Some key) es ≡ rest → rest_from cmp (first_entry rest) es ≡ rest
      from [] is = refl
      from (e ∷ rest) is = ap (λ rest. e ∷ rest) (past_next cmp o (Some key) es e rest sorted is)

  all_past : (key : K) (es : List (K × V)) → T (is_sorted cmp es) → AllByRecursion (λ y. is_gt (cmp y.0 key) ≡ true) (past cmp (Some key) es)
  all_past key [] sorted = tt
  all_past key (x ∷ xs) sorted = by (is_gt (cmp x.0 key)) refl (all_past key xs (second _ _ sorted))
    where
      by : (b : Bool) → is_gt (cmp x.0 key) ≡ b → AllByRecursion (λ y. is_gt (cmp y.0 key) ≡ true) (past cmp (Some key) xs) → AllByRecursion (λ y. is_gt (cmp y.0 key) ≡ true) (cond b (x ∷ xs) (past cmp (Some key) xs))
      by true is rest = (is, all_of (λ y later. later_still cmp o key x.0 y.0 is later) xs (rises cmp o (x ∷ xs) sorted).0)
      by false is rest = rest

  module _ (p : K → Bool) (es : List (K × V)) (sorted : T (is_sorted cmp es)) where
    pub passed_over : (now next : Option (K × V)) (e : K × V) → now ≡ Some e → p e.0 ≡ false → next ≡ entry_after cmp e.0 es → first_where p (rest_from cmp next es) ≡ first_where p (rest_from cmp now es)
    passed_over now next e here fails is =
        ap (λ next. first_where p (rest_from cmp next es)) is
        ∙ ap (first_where p) (rest_is_past e.0 es sorted)
        ∙ sym (ap (λ b. cond b (Some e) (first_where p (past cmp (Some e.0) es))) fails)
        ∙ sym (ap (λ now. first_where p (rest_from cmp now es)) here)

    pub fewer : (now next : Option (K × V)) (e : K × V) → now ≡ Some e → next ≡ entry_after cmp e.0 es → length (rest_from cmp next es) < length (rest_from cmp now es)
    fewer now next e here is =
        let after = ap (λ next. length (rest_from cmp next es)) is ∙ ap length (rest_is_past e.0 es sorted) in
        let before = ap (λ now. length (rest_from cmp now es)) here in
        omega (arith, after, before)

    pub found_here : (now : Option (K × V)) (e : K × V) → now ≡ Some e → p e.0 ≡ true → Some e ≡ first_where p (rest_from cmp now es)
    found_here now e here passes = sym (ap (λ now. first_where p (rest_from cmp now es)) here ∙ ap (λ b. cond b (Some e) (first_where p (past cmp (Some e.0) es))) passes)

    pub none_here : (now : Option (K × V)) (e : K × V) → now ≡ Some e → p e.0 ≡ false → ((k : K) → is_gt (cmp k e.0) ≡ true → p k ≡ false) → None ≡ first_where p (rest_from cmp now es)
    none_here now e here fails all = sym (
        ap (λ now. first_where p (rest_from cmp now es)) here
        ∙ ap (λ b. cond b (Some e) (first_where p (past cmp (Some e.0) es))) fails
        ∙ none_passes p (past cmp (Some e.0) es) (all_of (λ y later. all y.0 later) (past cmp (Some e.0) es) (all_past e.0 es sorted)))

-- ---- tables

leads : (x y : ℕ) (r : Ordering) → is_gt (ordering_then (nat_cmp x y) r) ≡ true → y ≤ x
leads x y r h = from (nat_cmp x y) (ranks x y) h
  where
    from : (s : Ordering) → MatchOrdering s (x < y) (x ≡ y) (y < x) → is_gt (ordering_then s r) ≡ true → y ≤ x
    from Less is h = absurd (true≢false (sym h))
    from Equal is h = omega (arith, is)
    from Greater is h = omega (arith, is)

other_code : (code x : ℕ) → code < x → (x == code) ≡ false
other_code code x lt = grind (arith, nat_tests)

before_code : (code x : ℕ) → x < code → (x == code) ≡ false
before_code code x lt = grind (arith, nat_tests)

not_before_zero : (y : ℕ) → is_ge (nat_cmp y 0) ≡ true
not_before_zero y = grind (arith, nat_tests)

below_bound : (lower : Option ℕ) (x : ℕ) → x < unwrap_or lower 0 → not_below lower x ≡ false
below_bound None x lt = absurd (omega (arith, lt))
below_bound (Some l) x lt = grind (arith, nat_tests)

and_false : (b : Bool) → (b && false) ≡ false
and_false true = refl
and_false false = refl

module _ (code : Name) (table : Option Name) (lower : Option ℕ) where
  abbrev asked : TableKey → Bool
  asked = is_asked code table lower

  abbrev start : TableKey
  start = record { code = code; scope = record { 0 = unwrap_or lower 0 }; table = record { 0 = 0 } }

  -- what is asked for doesn't come before the start
  begins : (k : TableKey) → asked k ≡ (is_ge (table_order k start) && asked k)
  begins k = from (nat_cmp k.code.0 code.0) (ranks k.code.0 code.0)
    where
      in_scope : (r : Ordering) → MatchOrdering r (k.scope.0 < unwrap_or lower 0) (k.scope.0 ≡ unwrap_or lower 0) (unwrap_or lower 0 < k.scope.0)
          → asked k ≡ (is_ge (ordering_then r (nat_cmp k.table.0 0)) && asked k)
      in_scope Less is =
          ap (λ b. ((k.code.0 == code.0) && b) && is_named table k.table) (below_bound lower k.scope.0 is)
          ∙ ap (λ b. b && is_named table k.table) (and_false (k.code.0 == code.0))
      in_scope Equal is = sym (ap (λ b. b && asked k) (not_before_zero k.table.0))
      in_scope Greater is = refl

      from : (r : Ordering) → MatchOrdering r (k.code.0 < code.0) (k.code.0 ≡ code.0) (code.0 < k.code.0)
          → asked k ≡ (is_ge (ordering_then r (ordering_then (nat_cmp k.scope.0 (unwrap_or lower 0)) (nat_cmp k.table.0 0))) && asked k)
      from Less is = ap (λ b. (b && not_below lower k.scope.0) && is_named table k.table) (before_code code.0 k.code.0 is)
      from Equal is = in_scope (nat_cmp k.scope.0 (unwrap_or lower 0)) (ranks k.scope.0 (unwrap_or lower 0))
      from Greater is = refl

  pub not_asked : (k : TableKey) → code.0 < k.code.0 → asked k ≡ false
  not_asked k lt = ap (λ b. (b && not_below lower k.scope.0) && is_named table k.table) (other_code code.0 k.code.0 lt)

  pub none_later : (k y : TableKey) → code.0 < k.code.0 → is_gt (table_order y k) ≡ true → asked y ≡ false
  none_later k y lt later =
      let le = leads y.code.0 k.code.0 (ordering_then (nat_cmp y.scope.0 k.scope.0) (nat_cmp y.table.0 k.table.0)) later in
      not_asked y (omega (arith, lt, le))

  module _ (tables : List (TableKey × TableRow)) (sorted : T (is_sorted table_order tables)) where
    pub first_asked : (found : Option (TableKey × TableRow)) → found ≡ entry_from table_order start tables → first_where asked (rest_from table_order found tables) ≡ first_entry (tables_from code table lower tables)
    first_asked found is =
        ap (λ found. first_where asked (rest_from table_order found tables)) is
        ∙ sym (first_left asked tables
        ∙ first_agrees asked (λ k. is_ge (table_order k start) && asked k) tables begins
        ∙ first_rest table_order tables_total (λ k. is_ge (table_order k start)) asked (not_below_still table_order tables_total start) tables sorted)

    pub next_asked : (key : TableKey) (found : Option (TableKey × TableRow)) → found ≡ entry_after table_order key tables → Follows (tables_from code table lower tables) key (first_where asked (rest_from table_order found tables))
    next_asked key found is at value there =
        ap (λ found. first_where asked (rest_from table_order found tables)) is
        ∙ sym (next_left (above table_order tables_total) (above_once table_order tables_total) asked tables (rises table_order tables_total tables sorted) at (key, value) there
        ∙ first_rest table_order tables_total (λ k. is_gt (table_order k key)) asked (later_still table_order tables_total key) tables sorted)
