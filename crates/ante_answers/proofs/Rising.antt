-- Entries in the order of a walk, each of which comes later than those before it.
use Rattle.std.proofs.Common.{◌≡◌, ℕ, zero, suc, Bool, true, false, true≢false, cond, ◌&&◌, T, List, [], ◌∷◌, ◌++◌, drop, filter, reverse, Option, Some, None, is_some, refl, sym, ap, subst, ◌∙◌, Ordering, Less, Equal, Greater}
use Rattle.std.specs.List.{slice_get, AllByRecursion}
use Rattle.std.specs.Option.{option_or}
use Rattle.std.specs.Ordering.{is_gt, ordering_reverse}
use Rattle.std.specs.Cmp.{IsTotalOrder}
use Rattle.std.specs.FinMap.Entries.{is_sorted, below_all}
use Rattle.std.proofs.lemmas.Grind.{reverse_onto}
use Rattle.ante_undo.specs.Entries.{first_where, last_where, first_entry, last_entry}
use Rattle.ante_undo.proofs.Entries.{first, second, less}
use Rattle.ante_answers.specs.Walks.{within}

pub none_is_some : {X A : Type 0} (x : X) → None ≡ Some x → A
none_is_some x h = absurd (true≢false (sym (ap is_some h)))

and_false : (b : Bool) → (b && false) ≡ false
and_false true = refl
and_false false = refl

module _ {X : Type 0} (P : X → Type 0) where
  pub all_onto : (xs : List X) (x : X) → AllByRecursion P xs → P x → AllByRecursion P (xs ++ x ∷ [])
  all_onto [] x all last = (last, tt)
  all_onto (y ∷ ys) x all last = (all.0, all_onto ys x all.1 last)

  all_reverse : (xs : List X) → AllByRecursion P xs → AllByRecursion P (reverse xs)
  all_reverse [] all = tt
  all_reverse (x ∷ xs) all = subst (AllByRecursion P) (sym (reverse_onto xs x [])) (all_onto (reverse xs) x (all_reverse xs all.1) all.0)

module _ {K V : Type 0} where
  -- the first entry that a filter leaves is the first that passes its test
  pub first_left : (p : K → Bool) (es : List (K × V)) → first_entry (filter (λ e. p e.0) es) ≡ first_where p es
  first_left p [] = refl
  first_left p (e ∷ es) = elim (p e.0) as (λ b. first_entry (cond b (e ∷ filter (λ e. p e.0) es) (filter (λ e. p e.0) es)) ≡ cond b (Some e) (first_where p es)) [
    | true ↦ refl
    | false ↦ first_left p es
  ]

  -- tests that agree find the same entry
  pub first_alike : (p q : K → Bool) (es : List (K × V)) → AllByRecursion (λ e. p e.0 ≡ q e.0) es → first_where p es ≡ first_where q es
  first_alike p q [] alike = refl
  first_alike p q (e ∷ es) alike =
      ap (λ b. cond b (Some e) (first_where p es)) alike.0 ∙ ap (λ rest. cond (q e.0) (Some e) rest) (first_alike p q es alike.1)

  everywhere : (p q : K → Bool) → ((k : K) → p k ≡ q k) → (es : List (K × V)) → AllByRecursion (λ e. p e.0 ≡ q e.0) es
  everywhere p q alike [] = tt
  everywhere p q alike (e ∷ es) = (alike e.0, everywhere p q alike es)

  pub first_agrees : (p q : K → Bool) (es : List (K × V)) → ((k : K) → p k ≡ q k) → first_where p es ≡ first_where q es
  first_agrees p q es alike = first_alike p q es (everywhere p q alike es)

  pub none_passes : (p : K → Bool) (es : List (K × V)) → AllByRecursion (λ e. p e.0 ≡ false) es → first_where p es ≡ None
  none_passes p [] fails = refl
  none_passes p (e ∷ es) fails = ap (λ b. cond b (Some e) (first_where p es)) fails.0 ∙ none_passes p es fails.1

  -- what holds of all entries holds of one that a filter leaves
  pub left_holds : (P : K × V → Type 0) (p : K → Bool) (es : List (K × V)) → AllByRecursion P es → (at : ℕ) (e : K × V) → slice_get (filter (λ e. p e.0) es) at ≡ Some e → P e
  left_holds P p [] all at e there = none_is_some e there
  left_holds P p (x ∷ xs) all at e there = by (p x.0) at there (left_holds P p xs all.1)
    where
      by : (b : Bool) (at : ℕ) → slice_get (cond b (x ∷ filter (λ e. p e.0) xs) (filter (λ e. p e.0) xs)) at ≡ Some e
          → ((at : ℕ) (e : K × V) → slice_get (filter (λ e. p e.0) xs) at ≡ Some e → P e) → P e
      by true zero there rest = let same : x ≡ e = cc in subst P same all.0
      by true (suc at) there rest = rest at e there
      by false at there rest = rest at e there

  -- one that a filter leaves has passed its test
  pub left_passes : (p : K → Bool) (es : List (K × V)) (at : ℕ) (e : K × V) → slice_get (filter (λ e. p e.0) es) at ≡ Some e → p e.0 ≡ true
  left_passes p [] at e there = none_is_some e there
  left_passes p (x ∷ xs) at e there = by (p x.0) refl at there (left_passes p xs)
    where
      by : (b : Bool) → p x.0 ≡ b → (at : ℕ) → slice_get (cond b (x ∷ filter (λ e. p e.0) xs) (filter (λ e. p e.0) xs)) at ≡ Some e
          → ((at : ℕ) (e : K × V) → slice_get (filter (λ e. p e.0) xs) at ≡ Some e → p e.0 ≡ true) → p e.0 ≡ true
      by true is zero there rest = let same : x ≡ e = cc in subst (λ e. p e.0 ≡ true) same is
      by true is (suc at) there rest = rest at e there
      by false is at there rest = rest at e there

  -- ---- backwards

  first_onto : (p : K → Bool) (es : List (K × V)) (e : K × V) → first_where p (es ++ e ∷ []) ≡ option_or (first_where p es) (cond (p e.0) (Some e) None)
  first_onto p [] e = refl
  first_onto p (x ∷ xs) e = elim (p x.0) as (λ b. cond b (Some x) (first_where p (xs ++ e ∷ [])) ≡ option_or (cond b (Some x) (first_where p xs)) (cond (p e.0) (Some e) None)) [
    | true ↦ refl
    | false ↦ first_onto p xs e
  ]

  pub first_reverse : (p : K → Bool) (es : List (K × V)) → first_where p (reverse es) ≡ last_where p es
  first_reverse p [] = refl
  first_reverse p (e ∷ es) =
      ap (first_where p) (reverse_onto es e []) ∙ first_onto p (reverse es) e ∙ ap (λ o. option_or o (cond (p e.0) (Some e) None)) (first_reverse p es)

  pub last_of_all : (es : List (K × V)) → last_where (λ k. true) es ≡ last_entry es
  last_of_all [] = refl
  last_of_all (e ∷ es) = ap (λ o. option_or o (Some e)) (last_of_all es)

itself : {K : Type 0} (later : K → K → Bool) → ((x y : K) → later x y ≡ true → later y x ≡ false) → (x : K) (b : Bool) → later x x ≡ b → later x x ≡ false
itself later one_way x true is = one_way x x is
itself later one_way x false is = is

module _ {K V : Type 0} (later : K → K → Bool) where
  abbrev pub Rising : List (K × V) → Type 0
  Rising [] = Unit {0}
  Rising (e ∷ es) = AllByRecursion (λ x. later x.0 e.0 ≡ true) es × Rising es

  rising_onto : (es : List (K × V)) (e : K × V) → Rising es → AllByRecursion (λ x. later e.0 x.0 ≡ true) es → Rising (es ++ e ∷ [])
  rising_onto [] e rising above = (tt, tt)
  rising_onto (x ∷ xs) e rising above = (all_onto (λ y. later y.0 x.0 ≡ true) xs e rising.0 above.0, rising_onto xs e rising.1 above.1)

  -- Where what comes later than a key outside is outside too, the first entry that passes a test and lies inside is the first that passes
  -- the test, if it lies inside.
  pub first_within : (p inside : K → Bool) → ((x y : K) → later y x ≡ true → inside x ≡ false → inside y ≡ false) → (es : List (K × V)) → Rising es → first_where (λ k. p k && inside k) es ≡ within inside (first_where p es)
  first_within p inside ends [] rising = refl
  first_within p inside ends (e ∷ es) rising = by (p e.0) (inside e.0) refl (first_within p inside ends es rising.1)
    where
      outside : inside e.0 ≡ false → (xs : List (K × V)) → AllByRecursion (λ x. later x.0 e.0 ≡ true) xs → AllByRecursion (λ x. (p x.0 && inside x.0) ≡ false) xs
      outside out [] above = tt
      outside out (x ∷ xs) above = (ap (λ b. p x.0 && b) (ends e.0 x.0 above.0 out) ∙ and_false (p x.0), outside out xs above.1)

      by : (a b : Bool) → inside e.0 ≡ b → first_where (λ k. p k && inside k) es ≡ within inside (first_where p es)
          → cond (a && b) (Some e) (first_where (λ k. p k && inside k) es) ≡ within inside (cond a (Some e) (first_where p es))
      by true true is rest = sym (ap (λ b. cond b (Some e) None) is)
      by true false is rest = none_passes _ es (outside is es rising.0) ∙ sym (ap (λ b. cond b (Some e) None) is)
      by false b is rest = rest

  module _ (one_way : (x y : K) → later x y ≡ true → later y x ≡ false) where
    first_later : (p : K → Bool) (x : K) (es : List (K × V)) → AllByRecursion (λ e. later e.0 x ≡ true) es → AllByRecursion (λ e. p e.0 ≡ (later e.0 x && p e.0)) es
    first_later p x [] above = tt
    first_later p x (e ∷ es) above = (sym (ap (λ b. b && p e.0) above.0), first_later p x es above.1)

    -- what a filter leaves after one entry begins with the first later one that passes
    pub next_left : (p : K → Bool) (es : List (K × V)) → Rising es → (at : ℕ) (e : K × V) → slice_get (filter (λ e. p e.0) es) at ≡ Some e
        → first_entry (drop (suc at) (filter (λ e. p e.0) es)) ≡ first_where (λ k. later k e.0 && p k) es
    next_left p [] rising at e there = none_is_some e there
    next_left p (x ∷ xs) rising at e there = by (p x.0) at there (next_left p xs rising.1)
      where
        left : List (K × V)
        left = filter (λ e. p e.0) xs

        here : first_entry left ≡ cond (later x.0 x.0 && true) (Some x) (first_where (λ k. later k x.0 && p k) xs)
        here =
            first_left p xs ∙ first_alike p (λ k. later k x.0 && p k) xs (first_later p x.0 xs rising.0)
            ∙ sym (ap (λ b. cond (b && true) (Some x) (first_where (λ k. later k x.0 && p k) xs)) (itself later one_way x.0 (later x.0 x.0) refl))

        by : (b : Bool) (at : ℕ) → slice_get (cond b (x ∷ left) left) at ≡ Some e
            → ((at : ℕ) (e : K × V) → slice_get left at ≡ Some e → first_entry (drop (suc at) left) ≡ first_where (λ k. later k e.0 && p k) xs)
            → first_entry (drop (suc at) (cond b (x ∷ left) left)) ≡ cond (later x.0 e.0 && b) (Some x) (first_where (λ k. later k e.0 && p k) xs)
        by true zero there rest =
            let same : x ≡ e = cc in
            subst (λ e. first_entry left ≡ cond (later x.0 e.0 && true) (Some x) (first_where (λ k. later k e.0 && p k) xs)) same here
        by true (suc at) there rest =
            let before = one_way e.0 x.0 (left_holds (λ y. later y.0 x.0 ≡ true) p xs rising.0 at e there) in
            rest at e there ∙ sym (ap (λ b. cond (b && true) (Some x) (first_where (λ k. later k e.0 && p k) xs)) before)
        by false at there rest =
            rest at e there ∙ sym (ap (λ b. cond b (Some x) (first_where (λ k. later k e.0 && p k) xs)) (and_false (later x.0 e.0)))

-- a list that rises goes back the other way
pub rising_reverse : {K V : Type 0} (later : K → K → Bool) (es : List (K × V)) → Rising later es → Rising (λ x k. later k x) (reverse es)
rising_reverse later [] rising = tt
rising_reverse later (e ∷ es) rising =
    subst (Rising (λ x k. later k x)) (sym (reverse_onto es e []))
    (rising_onto (λ x k. later k x) (reverse es) e (rising_reverse later es rising.1) (all_reverse (λ x. later x.0 e.0 ≡ true) es rising.0))

-- ---- sorted entries

module _ {K : Type 0} (cmp : K → K → Ordering) (o : IsTotalOrder cmp) where
  abbrev pub above : K → K → Bool
  above x k = is_gt (cmp x k)

  pub above_once : (x y : K) → above x y ≡ true → above y x ≡ false
  above_once x y h = ap is_gt (o.antisymm y x) ∙ reversed (cmp x y) h
    where
      reversed : (r : Ordering) → is_gt r ≡ true → is_gt (ordering_reverse r) ≡ false
      reversed Less h = absurd (true≢false (sym h))
      reversed Equal h = absurd (true≢false (sym h))
      reversed Greater h = refl

  module _ {V : Type 0} where
    all_above : (key : K) (es : List (K × V)) → T (below_all cmp key es) → AllByRecursion (λ x. above x.0 key ≡ true) es
    all_above key [] h = tt
    all_above key (x ∷ xs) h = (ap is_gt (o.antisymm x.0 key ∙ ap ordering_reverse (less _ (first _ _ h))), all_above key xs (second _ _ h))

    pub rises : (es : List (K × V)) → T (is_sorted cmp es) → Rising above es
    rises [] h = tt
    rises (e ∷ es) h = (all_above e.0 es (first _ _ h), rises es (second _ _ h))
