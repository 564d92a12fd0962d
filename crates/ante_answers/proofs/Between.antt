-- The rows between two bounds, whose next row is the nearest one of the whole table unless that lies outside.
use Rattle.std.proofs.Common.{◌≡◌, ℕ, suc, ◌<◌, ◌≤◌, Bool, true, false, true≢false, cond, ◌&&◌, nat_le, T, List, [], ◌∷◌, drop, filter, reverse, Option, Some, None, is_some, refl, sym, ap, subst, ◌∙◌, arith, Ordering, Less, Equal, Greater}
use Rattle.std.specs.List.{slice_get, AllByRecursion}
use Rattle.std.specs.Option.{option_or}
use Rattle.std.specs.Ordering.{nat_cmp, is_lt, is_ge, is_gt, eq_by_cmp}
use Rattle.std.specs.Cmp.{nat_cmp_total}
use Rattle.std.specs.FinMap.Entries.{find, is_sorted}
use Rattle.std.proofs.lemmas.Bool.Decides.{nat_tests}
use Rattle.ante_undo.specs.Entries.{first_where, last_where, first_entry, last_entry, entry_from, entry_after, entry_before}
use Rattle.ante_undo.proofs.Entries.{first, second}
use Rattle.ante_answers.specs.Answers.{not_below, not_above}
use Rattle.ante_answers.specs.Walks.{within, Follows}
use Rattle.ante_answers.proofs.Rising.{Rising, above, above_once, rises, rising_reverse, first_left, first_agrees, first_within, first_reverse, last_of_all, next_left, left_passes}

either_way : (a b : Bool) → (a && b) ≡ (b && a)
either_way true true = refl
either_way true false = refl
either_way false true = refl
either_way false false = refl

one : (a b : Bool) → (a && b) ≡ true → a ≡ true
one true b h = refl
one false b h = absurd (true≢false (sym h))

-- a test that follows from another one adds nothing to it
implied : (a b c : Bool) → (a ≡ true → b ≡ true) → (a && (b && c)) ≡ (a && c)
implied true b c h = ap (λ b. b && c) (h refl)
implied false b c h = refl

-- ---- bounds

not_above_ends : (upper : Option ℕ) (x y : ℕ) → is_gt (nat_cmp y x) ≡ true → not_above upper x ≡ false → not_above upper y ≡ false
not_above_ends None x y later out = absurd (true≢false out)
not_above_ends (Some u) x y later out = grind (arith, nat_tests)

not_below_ends : (lower : Option ℕ) (x y : ℕ) → is_gt (nat_cmp x y) ≡ true → not_below lower x ≡ false → not_below lower y ≡ false
not_below_ends None x y later out = absurd (true≢false out)
not_below_ends (Some l) x y later out = grind (arith, nat_tests)

stays_above : (lower : Option ℕ) (k x : ℕ) → not_below lower k ≡ true → is_gt (nat_cmp x k) ≡ true → not_below lower x ≡ true
stays_above None k x inside later = refl
stays_above (Some l) k x inside later = grind (arith, nat_tests)

stays_below : (upper : Option ℕ) (k x : ℕ) → not_above upper k ≡ true → is_gt (nat_cmp k x) ≡ true → not_above upper x ≡ true
stays_below None k x inside later = refl
stays_below (Some u) k x inside later = grind (arith, nat_tests)

from_bound : (l x : ℕ) → is_ge (nat_cmp x l) ≡ nat_le l x
from_bound l x = grind (arith, nat_tests)

from_zero : (x : ℕ) → is_ge (nat_cmp x 0) ≡ true
from_zero x = grind (arith, nat_tests)

turned : (k x : ℕ) → is_lt (nat_cmp x k) ≡ is_gt (nat_cmp k x)
turned k x = grind (arith, nat_tests)

ties : (u k : ℕ) → eq_by_cmp nat_cmp u k ≡ true → u ≡ k
ties u k h = grind (arith, nat_tests)

untied : (u k : ℕ) → eq_by_cmp nat_cmp u k ≡ false → nat_le k u ≡ is_lt (nat_cmp k u)
untied u k h = grind (arith, nat_tests)

module _ {V : Type 0} where
  -- ---- where a walk begins

  pub from_lower : (l : ℕ) (rows : List (ℕ × V)) → entry_from nat_cmp l rows ≡ first_where (not_below (Some l)) rows
  from_lower l rows = first_agrees (λ x. is_ge (nat_cmp x l)) (not_below (Some l)) rows (from_bound l)

  pub from_least : (rows : List (ℕ × V)) → entry_from nat_cmp 0 rows ≡ first_where (not_below None) rows
  from_least rows = first_agrees (λ x. is_ge (nat_cmp x 0)) (not_below None) rows from_zero

  pub from_greatest : (rows : List (ℕ × V)) → last_entry rows ≡ first_where (not_above None) (reverse rows)
  from_greatest rows = sym (first_reverse (λ k. true) rows ∙ last_of_all rows)

  none_up_to : (u : ℕ) (rows : List (ℕ × V)) → AllByRecursion (λ x. is_gt (nat_cmp x.0 u) ≡ true) rows → last_where (λ k. nat_le k u) rows ≡ None
  none_up_to u [] above = refl
  none_up_to u (x ∷ xs) above = ap (λ o. option_or o (cond (nat_le x.0 u) (Some x) None)) (none_up_to u xs above.1) ∙ ap (λ b. cond b (Some x) None) (outside x.0 above.0)
    where
      outside : (k : ℕ) → is_gt (nat_cmp k u) ≡ true → nat_le k u ≡ false
      outside k later = grind (arith, nat_tests)

  last_found : (u : ℕ) (v : V) (rows : List (ℕ × V)) → Rising (above nat_cmp nat_cmp_total) rows → find nat_cmp u rows ≡ Some v → last_where (λ k. nat_le k u) rows ≡ Some (u, v)
  last_found u v [] rising there = absurd (true≢false (sym (ap is_some there)))
  last_found u v (e ∷ es) rising there = by (eq_by_cmp nat_cmp u e.0) refl there (last_found u v es rising.1)
    where
      here : u ≡ e.0 → e.1 ≡ v → option_or (last_where (λ k. nat_le k u) es) (cond (nat_le e.0 u) (Some e) None) ≡ Some (u, v)
      here same value =
          ap (λ o. option_or o (cond (nat_le e.0 u) (Some e) None)) (none_up_to u es (subst (λ k. AllByRecursion (λ x. is_gt (nat_cmp x.0 k) ≡ true) es) (sym same) rising.0))
          ∙ ap (λ b. cond b (Some e) None) (le e.0 u same)
          ∙ (λ i. Some (sym same i, value i))
        where
          le : (k u : ℕ) → u ≡ k → nat_le k u ≡ true
          le k u same = grind (arith, nat_tests)

      by : (b : Bool) → eq_by_cmp nat_cmp u e.0 ≡ b → cond b (Some e.1) (find nat_cmp u es) ≡ Some v → (find nat_cmp u es ≡ Some v → last_where (λ k. nat_le k u) es ≡ Some (u, v))
          → option_or (last_where (λ k. nat_le k u) es) (cond (nat_le e.0 u) (Some e) None) ≡ Some (u, v)
      by true is there rest = let value : e.1 ≡ v = cc in here (ties u e.0 is) value
      by false is there rest = ap (λ o. option_or o (cond (nat_le e.0 u) (Some e) None)) (rest there)

  last_before : (u : ℕ) (rows : List (ℕ × V)) → find nat_cmp u rows ≡ None → last_where (λ k. nat_le k u) rows ≡ entry_before nat_cmp u rows
  last_before u [] none = refl
  last_before u (e ∷ es) none = by (eq_by_cmp nat_cmp u e.0) refl none (last_before u es)
    where
      by : (b : Bool) → eq_by_cmp nat_cmp u e.0 ≡ b → cond b (Some e.1) (find nat_cmp u es) ≡ None → (find nat_cmp u es ≡ None → last_where (λ k. nat_le k u) es ≡ entry_before nat_cmp u es)
          → option_or (last_where (λ k. nat_le k u) es) (cond (nat_le e.0 u) (Some e) None) ≡ option_or (entry_before nat_cmp u es) (cond (is_lt (nat_cmp e.0 u)) (Some e) None)
      by true is none rest = absurd (true≢false (ap is_some none))
      by false is none rest =
          ap (λ o. option_or o (cond (nat_le e.0 u) (Some e) None)) (rest none) ∙ ap (λ b. option_or (entry_before nat_cmp u es) (cond b (Some e) None)) (untied u e.0 is)

  -- the row at the upper bound, where it is there
  pub up_to_row : (u : ℕ) (v : V) (rows : List (ℕ × V)) → T (is_sorted nat_cmp rows) → find nat_cmp u rows ≡ Some v → Some (u, v) ≡ first_where (not_above (Some u)) (reverse rows)
  up_to_row u v rows sorted there = sym (first_reverse (λ k. nat_le k u) rows ∙ last_found u v rows (rises nat_cmp nat_cmp_total rows sorted) there)

  -- and the one before it, where it isn't
  pub up_to_before : (u : ℕ) (rows : List (ℕ × V)) → find nat_cmp u rows ≡ None → entry_before nat_cmp u rows ≡ first_where (not_above (Some u)) (reverse rows)
  up_to_before u rows none = sym (first_reverse (λ k. nat_le k u) rows ∙ last_before u rows none)

  module _ (lower upper : Option ℕ) (rows : List (ℕ × V)) (sorted : T (is_sorted nat_cmp rows)) where
    abbrev inside : ℕ → Bool
    inside k = not_below lower k && not_above upper k

    up : Rising (above nat_cmp nat_cmp_total) rows
    up = rises nat_cmp nat_cmp_total rows sorted

    abbrev below : ℕ → ℕ → Bool
    below x k = above nat_cmp nat_cmp_total k x

    down : Rising below (reverse rows)
    down = rising_reverse (above nat_cmp nat_cmp_total) rows up

    -- ---- the first row

    pub first_up : (found : Option (ℕ × V)) → found ≡ first_where (not_below lower) rows → within (not_above upper) found ≡ first_entry (filter (λ row. not_below lower row.0 && not_above upper row.0) rows)
    first_up found is =
        ap (within (not_above upper)) is
        ∙ sym (first_left inside rows ∙ first_within (above nat_cmp nat_cmp_total) (not_below lower) (not_above upper) (not_above_ends upper) rows up)

    pub first_down : (found : Option (ℕ × V)) → found ≡ first_where (not_above upper) (reverse rows) → within (not_below lower) found ≡ first_entry (filter (λ row. not_below lower row.0 && not_above upper row.0) (reverse rows))
    first_down found is =
        ap (within (not_below lower)) is
        ∙ sym (first_left inside (reverse rows) ∙ first_agrees inside (λ k. not_above upper k && not_below lower k) (reverse rows) (λ k. either_way (not_below lower k) (not_above upper k))
        ∙ first_within below (not_above upper) (not_below lower) (not_below_ends lower) (reverse rows) down)

    -- ---- the next row

    pub next_up : (key : ℕ) (found : Option (ℕ × V)) → found ≡ entry_after nat_cmp key rows → Follows (filter (λ row. not_below lower row.0 && not_above upper row.0) rows) key (within (not_above upper) found)
    next_up key found is at value there =
        ap (within (not_above upper)) is
        ∙ sym (next_left (above nat_cmp nat_cmp_total) (above_once nat_cmp nat_cmp_total) inside rows up at (key, value) there
        ∙ first_agrees (λ k. is_gt (nat_cmp k key) && inside k) (λ k. is_gt (nat_cmp k key) && not_above upper k) rows (λ k. implied (is_gt (nat_cmp k key)) (not_below lower k) (not_above upper k) (stays_above lower key k passed))
        ∙ first_within (above nat_cmp nat_cmp_total) (λ k. is_gt (nat_cmp k key)) (not_above upper) (not_above_ends upper) rows up)
      where
        passed : not_below lower key ≡ true
        passed = one (not_below lower key) (not_above upper key) (left_passes inside rows at (key, value) there)

    pub next_down : (key : ℕ) (found : Option (ℕ × V)) → found ≡ entry_before nat_cmp key rows → Follows (filter (λ row. not_below lower row.0 && not_above upper row.0) (reverse rows)) key (within (not_below lower) found)
    next_down key found is at value there =
        ap (within (not_below lower)) (is ∙ before)
        ∙ sym (next_left below (λ x y h. above_once nat_cmp nat_cmp_total y x h) inside (reverse rows) down at (key, value) there
        ∙ first_agrees (λ k. is_gt (nat_cmp key k) && inside k) (λ k. is_gt (nat_cmp key k) && not_below lower k) (reverse rows) (λ k. ap (λ b. is_gt (nat_cmp key k) && b) (either_way (not_below lower k) (not_above upper k)) ∙ implied (is_gt (nat_cmp key k)) (not_above upper k) (not_below lower k) (stays_below upper key k passed))
        ∙ first_within below (λ k. is_gt (nat_cmp key k)) (not_below lower) (not_below_ends lower) (reverse rows) down)
      where
        before : entry_before nat_cmp key rows ≡ first_where (λ k. is_gt (nat_cmp key k)) (reverse rows)
        before = sym (first_reverse (λ x. is_lt (nat_cmp x key)) rows) ∙ first_agrees (λ x. is_lt (nat_cmp x key)) (λ k. is_gt (nat_cmp key k)) (reverse rows) (turned key)

        passed : not_above upper key ≡ true
        passed = one (not_above upper key) (not_below lower key) (either_way (not_above upper key) (not_below lower key) ∙ left_passes inside (reverse rows) at (key, value) there)
