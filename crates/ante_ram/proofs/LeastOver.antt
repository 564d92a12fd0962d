-- The least account that is over stands among those that a session changed.
use Rattle.std.proofs.Common.{◌≡◌, ℕ, ℤ, negsuc, Bool, true, false, true≢false, cond, not, ◌&&◌, ◌||◌, T, List, [], ◌∷◌, Option, Some, None, IfSome, refl, sym, ap, subst, ◌∙◌, arith, Ordering, Less, Equal, Greater, is_lt, is_eq}
use Rattle.std.specs.Prelude.{nat_lt}
use Rattle.std.specs.Ordering.{eq_by_cmp, is_gt, ordering_reverse}
use Rattle.std.specs.Option.{option_or}
use Rattle.std.specs.Cmp.{IsTotalOrder}
use Rattle.std.specs.List.{list_any}
use Rattle.std.specs.FinMap.Entries.{find, is_sorted, below_all}
use Rattle.std.proofs.lemmas.Bool.Decides.{nat_tests}
use Rattle.std.proofs.lemmas.Cmp.{tied_itself}
use Rattle.ante_undo.proofs.Entries.{first, second, less}
use Rattle.ante_sums.proofs.Changed.{absent}
use Rattle.ante_pack.specs.declared.names.Name.{Name}
use Rattle.ante_ram.specs.declared.parts.Share.{Share}
use Rattle.ante_ram.specs.Usage.{used_of, quota_of, exceeds, is_over, first_over, shown_share}
use Rattle.ante_ram.specs.Least.{shown_at, over_at, lesser_over, least_over}

never : {X : Type 0} (b : Bool) → (b && false) ≡ true → X
never true h = absurd (true≢false (sym h))
never false h = absurd (true≢false (sym h))

tied : (r : Ordering) → is_eq r ≡ true → r ≡ Equal
tied Less p = cc
tied Equal p = refl
tied Greater p = cc

greater : (r : Ordering) → is_gt r ≡ true → r ≡ Greater
greater Less p = cc
greater Equal p = cc
greater Greater p = refl

not_growing : (n used : ℕ) (b : Bool) → n ≡ used → (nat_lt n used && b) ≡ false
not_growing n used b e = let test : nat_lt n used ≡ false = grind (arith, nat_tests) in ap (λ t. t && b) test

module _ (cmp : Name → Name → Ordering) (o : IsTotalOrder cmp) (exact : (a b : Name) → cmp a b ≡ Equal → a ≡ b) (before : List (Name × Share)) where
  -- the first one over lies above what all keys are above
  first_below : (k : Name) (es : List (Name × Share)) (x : Name × ℕ × ℤ) → T (below_all cmp k es) → first_over cmp before es ≡ Some x → cmp k x.0 ≡ Less
  first_below k [] x h is = absurd (true≢false cc)
  first_below k (e ∷ es) x h is =
      elim (is_over cmp before (shown_share e)) as (λ b. cond b (Some (shown_share e)) (first_over cmp before es) ≡ Some x → cmp k x.0 ≡ Less) [
        | true ↦ λ q. let same : shown_share e ≡ x = cc in subst (λ y. cmp k y.0 ≡ Less) same (less _ (first _ _ h))
        | false ↦ λ q. first_below k es x (second _ _ h) q
      ] is

  -- it is shown as the map has it, and is over
  first_is : (es : List (Name × Share)) (x : Name × ℕ × ℤ) → T (is_sorted cmp es) → first_over cmp before es ≡ Some x → (shown_at cmp before es x.0 ≡ x) × (is_over cmp before x ≡ true)
  first_is [] x h is = absurd (true≢false cc)
  first_is (e ∷ es) x h is =
      elim (is_over cmp before (shown_share e)) as (λ b. is_over cmp before (shown_share e) ≡ b → cond b (Some (shown_share e)) (first_over cmp before es) ≡ Some x → (shown_at cmp before (e ∷ es) x.0 ≡ x) × (is_over cmp before x ≡ true)) [
        | true ↦ λ p q. let same : shown_share e ≡ x = cc in subst (λ y. (shown_at cmp before (e ∷ es) y.0 ≡ y) × (is_over cmp before y ≡ true)) same (here, p)
        | false ↦ λ p q. let rest = first_is es x (second _ _ h) q in (there (first_below e.0 es x (first _ _ h) q) ∙ rest.0, rest.1)
      ] refl is
    where
      here : shown_at cmp before (e ∷ es) e.0 ≡ shown_share e
      here = ap (λ r. (e.0, used_of (cond (is_eq r) (Some e.1) (find cmp e.0 es)), quota_of (cond (is_eq r) (Some e.1) (find cmp e.0 es)))) (tied_itself o e.0)

      there : cmp e.0 x.0 ≡ Less → shown_at cmp before (e ∷ es) x.0 ≡ shown_at cmp before es x.0
      there lt = ap (λ r. (x.0, used_of (cond (is_eq r) (Some e.1) (find cmp x.0 es)), quota_of (cond (is_eq r) (Some e.1) (find cmp x.0 es)))) (o.antisymm x.0 e.0 ∙ ap ordering_reverse lt)

  abbrev NotAbove : Option (Name × ℕ × ℤ) → Name → Type 0
  NotAbove None k = ⊥
  NotAbove (Some x) k = is_gt (cmp x.0 k) ≡ false

  -- no account that is over comes before the first one
  not_above : (es : List (Name × Share)) (k : Name) → T (is_sorted cmp es) → is_over cmp before (shown_at cmp before es k) ≡ true → NotAbove (first_over cmp before es) k
  not_above [] k h over = never _ over
  not_above (e ∷ es) k h over =
      elim (is_over cmp before (shown_share e)) as (λ b. is_over cmp before (shown_share e) ≡ b → NotAbove (cond b (Some (shown_share e)) (first_over cmp before es)) k) [
        | true ↦ λ p. from_head (cmp e.0 k) refl
        | false ↦ λ p. from_rest (λ over. not_above es k (second _ _ h) over) p (cmp k e.0) refl
      ] refl
    where
      from_head : (r : Ordering) → cmp e.0 k ≡ r → is_gt (cmp e.0 k) ≡ false
      from_head Less q = ap is_gt q
      from_head Equal q = ap is_gt q
      from_head Greater q =
          let lower : cmp k e.0 ≡ Less = o.antisymm k e.0 ∙ ap ordering_reverse q in
          let none : find cmp k (e ∷ es) ≡ None = ap (λ r. cond (is_eq r) (Some e.1) (find cmp k es)) lower ∙ absent cmp o k e.0 es Less lower (subst (λ r. T (not (is_lt r))) (sym q) tt) (first _ _ h) in
          never _ (sym (ap (λ share. is_over cmp before (k, used_of share, quota_of share)) none) ∙ over)

      from_rest : (is_over cmp before (shown_at cmp before es k) ≡ true → NotAbove (first_over cmp before es) k) → is_over cmp before (shown_share e) ≡ false → (r : Ordering) → cmp k e.0 ≡ r → NotAbove (first_over cmp before es) k
      from_rest rest p Less q = rest (sym (ap (λ r. is_over cmp before (k, used_of (cond (is_eq r) (Some e.1) (find cmp k es)), quota_of (cond (is_eq r) (Some e.1) (find cmp k es)))) q) ∙ over)
      from_rest rest p Greater q = rest (sym (ap (λ r. is_over cmp before (k, used_of (cond (is_eq r) (Some e.1) (find cmp k es)), quota_of (cond (is_eq r) (Some e.1) (find cmp k es)))) q) ∙ over)
      from_rest rest p Equal q =
          absurd (true≢false (sym over ∙ ap (λ r. is_over cmp before (k, used_of (cond (is_eq r) (Some e.1) (find cmp k es)), quota_of (cond (is_eq r) (Some e.1) (find cmp k es)))) q ∙ ap (λ n. is_over cmp before (n, e.1.used, e.1.quota)) (exact k e.0 q) ∙ p))

  module _ (now : List (Name × Share)) (sorted : T (is_sorted cmp now)) where
    -- where no account is over, none of these is
    none_over : {V : Type 0} (cs : List (Name × V)) → first_over cmp before now ≡ None → least_over cmp before now None cs ≡ None
    none_over [] none = refl
    none_over (c ∷ cs) none = ap (λ least. least_over cmp before now least cs) (by_test (is_over cmp before (shown_at cmp before now c.0)) refl) ∙ none_over cs none
      where
        by_test : (b : Bool) → is_over cmp before (shown_at cmp before now c.0) ≡ b → cond b (Some (shown_at cmp before now c.0)) None ≡ None
        by_test true p = absurd (subst (λ o. NotAbove o c.0) none (not_above now c.0 sorted p))
        by_test false p = refl

    module _ (x : Name × ℕ × ℤ) (is : first_over cmp before now ≡ Some x) where
      not_below : (k : Name) → is_over cmp before (shown_at cmp before now k) ≡ true → is_gt (cmp x.0 k) ≡ false
      not_below k over = subst (λ o. NotAbove o k) is (not_above now k sorted over)

      over_first : over_at cmp before now x.0 ≡ Some x
      over_first =
          let p = first_is now x sorted is in
          ap (λ y. cond (is_over cmp before y) (Some y) None) p.0 ∙ ap (λ b. cond b (Some x) None) p.1

      -- once the first one was found, it stays
      stays : {V : Type 0} (cs : List (Name × V)) → least_over cmp before now (Some x) cs ≡ Some x
      stays [] = refl
      stays (c ∷ cs) = ap (λ least. least_over cmp before now least cs) (by_test (is_gt (cmp x.0 c.0)) refl (is_over cmp before (shown_at cmp before now c.0)) refl) ∙ stays cs
        where
          by_test : (b : Bool) → is_gt (cmp x.0 c.0) ≡ b → (d : Bool) → is_over cmp before (shown_at cmp before now c.0) ≡ d → cond b (option_or (cond d (Some (shown_at cmp before now c.0)) None) (Some x)) (Some x) ≡ Some x
          by_test true p true q = absurd (true≢false (sym p ∙ not_below c.0 q))
          by_test true p false q = refl
          by_test false p d q = refl

      -- what was found so far is over
      abbrev IsOver : Option (Name × ℕ × ℤ) → Type 0
      IsOver least = IfSome least (λ l. over_at cmp before now l.0 ≡ Some l)

      over_there : (k : Name) (l : Name × ℕ × ℤ) → over_at cmp before now k ≡ Some l → over_at cmp before now l.0 ≡ Some l
      over_there k l h = by_test (is_over cmp before (shown_at cmp before now k)) h
        where
          by_test : (b : Bool) → cond b (Some (shown_at cmp before now k)) None ≡ Some l → over_at cmp before now l.0 ≡ Some l
          by_test true q = let same : shown_at cmp before now k ≡ l = cc in subst (λ n. over_at cmp before now n ≡ Some l) (ap (λ y. y.0) same) h
          by_test false q = absurd (true≢false cc)

      over_is : (k : Name) (l : Name × ℕ × ℤ) → over_at cmp before now k ≡ Some l → is_over cmp before (shown_at cmp before now k) ≡ true
      over_is k l h = by_test (is_over cmp before (shown_at cmp before now k)) refl h
        where
          by_test : (b : Bool) → is_over cmp before (shown_at cmp before now k) ≡ b → cond b (Some (shown_at cmp before now k)) None ≡ Some l → b ≡ true
          by_test true p q = refl
          by_test false p q = absurd (true≢false cc)

      next_is : (least : Option (Name × ℕ × ℤ)) (k : Name) → IsOver least → IsOver (lesser_over cmp before now least k)
      next_is None k h = each (over_at cmp before now k) refl
        where
          each : (o : Option (Name × ℕ × ℤ)) → over_at cmp before now k ≡ o → IsOver o
          each None p = tt
          each (Some l) p = over_there k l p
      next_is (Some l) k h = elim (is_gt (cmp l.0 k)) as (λ b. IsOver (cond b (option_or (over_at cmp before now k) (Some l)) (Some l))) [
        | true ↦ each (over_at cmp before now k) refl
        | false ↦ h
      ]
        where
          each : (o : Option (Name × ℕ × ℤ)) → over_at cmp before now k ≡ o → IsOver (option_or o (Some l))
          each None p = h
          each (Some y) p = over_there k y p

      meets : (least : Option (Name × ℕ × ℤ)) (k : Name) → k ≡ x.0 → IsOver least → lesser_over cmp before now least k ≡ Some x
      meets None k same h = ap (over_at cmp before now) same ∙ over_first
      meets (Some l) k same h = by_order (cmp l.0 k) refl
        where
          there : over_at cmp before now k ≡ Some x
          there = ap (over_at cmp before now) same ∙ over_first

          by_order : (r : Ordering) → cmp l.0 k ≡ r → cond (is_gt (cmp l.0 k)) (option_or (over_at cmp before now k) (Some l)) (Some l) ≡ Some x
          by_order Greater p = ap (λ r. cond (is_gt r) (option_or (over_at cmp before now k) (Some l)) (Some l)) p ∙ ap (λ o. option_or o (Some l)) there
          by_order Equal p = ap (λ r. cond (is_gt r) (option_or (over_at cmp before now k) (Some l)) (Some l)) p ∙ sym h ∙ ap (over_at cmp before now) (exact l.0 k p) ∙ there
          by_order Less p =
              let above : is_gt (cmp x.0 l.0) ≡ true = ap is_gt (ap (λ n. cmp n l.0) (sym same) ∙ o.antisymm k l.0 ∙ ap ordering_reverse p) in
              absurd (true≢false (sym above ∙ not_below l.0 (over_is l.0 l h)))

      -- it is found where it is met
      found : {V : Type 0} (cs : List (Name × V)) (least : Option (Name × ℕ × ℤ)) → list_any (λ c. eq_by_cmp cmp x.0 c.0) cs ≡ true → IsOver least → least_over cmp before now least cs ≡ Some x
      found [] least there h = absurd (true≢false (sym there))
      found (c ∷ cs) least there h =
          elim (eq_by_cmp cmp x.0 c.0) as (λ b. eq_by_cmp cmp x.0 c.0 ≡ b → (b || list_any (λ c. eq_by_cmp cmp x.0 c.0) cs) ≡ true → least_over cmp before now (lesser_over cmp before now least c.0) cs ≡ Some x) [
            | true ↦ λ p q. ap (λ least. least_over cmp before now least cs) (meets least c.0 (sym (exact x.0 c.0 (tied (cmp x.0 c.0) p))) h) ∙ stays cs
            | false ↦ λ p q. found cs (lesser_over cmp before now least c.0) q (next_is least c.0 h)
          ] refl there

      -- and it is met, since what didn't change didn't grow
      met : {V : Type 0} (cs : List (Name × V)) → ((k : Name) → not (list_any (λ c. eq_by_cmp cmp k c.0) cs) ≡ true → find cmp k now ≡ find cmp k before) → list_any (λ c. eq_by_cmp cmp x.0 c.0) cs ≡ true
      met cs unchanged = by_test (list_any (λ c. eq_by_cmp cmp x.0 c.0) cs) refl
        where
          by_test : (b : Bool) → list_any (λ c. eq_by_cmp cmp x.0 c.0) cs ≡ b → b ≡ true
          by_test true p = refl
          by_test false p =
              let shown = first_is now x sorted is in
              let used : used_of (find cmp x.0 before) ≡ x.1 = ap used_of (sym (unchanged x.0 (ap not p))) ∙ ap (λ y. y.1) shown.0 in
              absurd (true≢false (sym shown.1 ∙ not_growing (used_of (find cmp x.0 before)) x.1 (exceeds x.1 x.2) used))

    pub least_is : {V : Type 0} (cs : List (Name × V)) → ((k : Name) → not (list_any (λ c. eq_by_cmp cmp k c.0) cs) ≡ true → find cmp k now ≡ find cmp k before) → least_over cmp before now None cs ≡ first_over cmp before now
    least_is cs unchanged = by_first (first_over cmp before now) refl
      where
        by_first : (r : Option (Name × ℕ × ℤ)) → first_over cmp before now ≡ r → least_over cmp before now None cs ≡ first_over cmp before now
        by_first None p = none_over cs p ∙ sym p
        by_first (Some x) p = found x p cs None (met x p cs unchanged) tt ∙ sym p
