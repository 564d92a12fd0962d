-- What a look-up finds in a map after a change, and that changes keep the keys in order.
use Rattle.std.proofs.Common.{◌≡◌, Bool, true, false, cond, not, ◌&&◌, T, List, [], ◌∷◌, Option, Some, None, IfSome, option_map, refl, sym, ap, subst, ◌∙◌, Ordering, Less, Equal, Greater, is_lt, is_eq}
use Rattle.std.specs.Ordering.{ordering_reverse, eq_by_cmp}
use Rattle.std.specs.Cmp.{IsTotalOrder, alike_right}
use Rattle.std.specs.List.{AllByRecursion}
use Rattle.std.specs.FinMap.Entries.{by_order, put, find, is_sorted, below_all, is_sorted-where_key}
use Rattle.ante_undo.specs.Entries.{with_entry, without_key, changed, entry_at}

pub both : (a b : Bool) → T a → T b → T (a && b)
both true b p q = q
both false b p q = p

pub first : (a b : Bool) → T (a && b) → T a
first true b p = tt
first false b p = p

pub second : (a b : Bool) → T (a && b) → T b
second true b p = p
second false b p = absurd p

pub less : (o : Ordering) → T (is_lt o) → o ≡ Less
less Less p = refl
less Equal p = absurd p
less Greater p = absurd p

pub equal : (o : Ordering) → T (is_eq o) → o ≡ Equal
equal Less p = absurd p
equal Equal p = refl
equal Greater p = absurd p

-- a test that is repeated: the inner branch is never reached
shadowed : {A : Type 0} (b : Bool) (x y z : A) → cond b x z ≡ cond b x (cond b y z)
shadowed true x y z = refl
shadowed false x y z = refl

swapped : {A : Type 0} (a b : Bool) (x y z : A) → (T a → ¬ (T b)) → cond a x (cond b y z) ≡ cond b y (cond a x z)
swapped true true x y z apart = absurd (apart tt tt)
swapped true false x y z apart = refl
swapped false b x y z apart = refl

-- two keys that both tie with q tie with each other
joins : {K : Type 0} {cmp : K → K → Ordering} → IsTotalOrder cmp → (q x y : K) → T (eq_by_cmp cmp q x) → T (eq_by_cmp cmp q y) → cmp x y ≡ Equal
joins o q x y a b = sym (o.congr q x y (equal _ a)) ∙ equal _ b

module _ {K V : Type 0} (cmp : K → K → Ordering) where
  -- the value at a key is that of the entry at the key
  pub find_entry : (q : K) (es : List (K × V)) → find cmp q es ≡ option_map (λ e. e.1) (entry_at cmp q es)
  find_entry q [] = refl
  find_entry q (e ∷ es) =
      elim (eq_by_cmp cmp q e.0) as (λ b. cond b (Some e.1) (find cmp q es) ≡ option_map (λ e. e.1) (cond b (Some e) (entry_at cmp q es))) [
        | true ↦ refl
        | false ↦ find_entry q es
      ]

  pub value_found : (q : K) (e : Option (K × V)) (es : List (K × V)) → e ≡ entry_at cmp q es → option_map (λ e. e.1) e ≡ find cmp q es
  value_found q e es is = ap (option_map (λ e. e.1)) is ∙ sym (find_entry q es)

  -- nothing is taken out of a map at a key that it lacks
  pub without_absent : (k : K) (es : List (K × V)) → find cmp k es ≡ None → without_key cmp k es ≡ es
  without_absent k [] none = refl
  without_absent k (e ∷ es) none =
      elim (eq_by_cmp cmp k e.0) as (λ b. cond b (Some e.1) (find cmp k es) ≡ None → cond (not b) (e ∷ without_key cmp k es) (without_key cmp k es) ≡ e ∷ es) [
        | true ↦ λ is. cc
        | false ↦ λ is. ap (λ rest. e ∷ rest) (without_absent k es is)
      ] none

  below_with : (x k : K) (v : V) (es : List (K × V)) → T (is_lt (cmp x k)) → T (below_all cmp x es) → T (below_all cmp x (with_entry cmp k v es))
  below_with x k v [] p h = both _ _ p tt
  below_with x k v (e ∷ es) p h =
      elim (cmp k e.0) as (λ o. T (below_all cmp x (by_order o ((k, v) ∷ e ∷ es) ((k, v) ∷ es) (e ∷ with_entry cmp k v es)))) [
        | Less ↦ both _ _ p h
        | Equal ↦ both _ _ p (second _ _ h)
        | Greater ↦ both _ _ (first _ _ h) (below_with x k v es p (second _ _ h))
      ]

  module _ (P : K × V → Type 0) where
    all_with : (k : K) (v : V) (es : List (K × V)) → P (k, v) → AllByRecursion P es → AllByRecursion P (with_entry cmp k v es)
    all_with k v [] p all = (p, tt)
    all_with k v (e ∷ es) p all =
        elim (cmp k e.0) as (λ r. AllByRecursion P (by_order r ((k, v) ∷ e ∷ es) ((k, v) ∷ es) (e ∷ with_entry cmp k v es))) [
          | Less ↦ (p, all)
          | Equal ↦ (p, all.1)
          | Greater ↦ (all.0, all_with k v es p all.1)
        ]

    all_without : (k : K) (es : List (K × V)) → AllByRecursion P es → AllByRecursion P (without_key cmp k es)
    all_without k [] all = tt
    all_without k (e ∷ es) all =
        elim (eq_by_cmp cmp k e.0) as (λ b. AllByRecursion P (cond (not b) (e ∷ without_key cmp k es) (without_key cmp k es))) [
          | true ↦ all_without k es all.1
          | false ↦ (all.0, all_without k es all.1)
        ]

    -- what holds of all entries, and of the one that is put, holds after a change
    pub all_changed : (es : List (K × V)) (k : K) (c : Option V) → IfSome c (λ v. P (k, v)) → AllByRecursion P es → AllByRecursion P (changed cmp es k c)
    all_changed es k (Some v) p all = all_with k v es p all
    all_changed es k None p all = all_without k es all

  module _ (o : IsTotalOrder cmp) where
    below_less : (x y : K) (es : List (K × V)) → cmp x y ≡ Less → T (below_all cmp y es) → T (below_all cmp x es)
    below_less x y [] p h = tt
    below_less x y (e ∷ es) p h = both _ _ (subst (λ r. T (is_lt r)) (sym (o.trans x y e.0 p (less _ (first _ _ h)))) tt) (below_less x y es p (second _ _ h))

    below_tied : (x y : K) (es : List (K × V)) → cmp x y ≡ Equal → T (below_all cmp y es) → T (below_all cmp x es)
    below_tied x y [] p h = tt
    below_tied x y (e ∷ es) p h = both _ _ (subst (λ r. T (is_lt r)) (sym (o.congr x y e.0 p)) (first _ _ h)) (below_tied x y es p (second _ _ h))

    sorted_with : (k : K) (v : V) (es : List (K × V)) → T (is_sorted cmp es) → T (is_sorted cmp (with_entry cmp k v es))
    sorted_with k v [] h = tt
    sorted_with k v (e ∷ es) h =
        elim (cmp k e.0) as (λ r. cmp k e.0 ≡ r → T (is_sorted cmp (by_order r ((k, v) ∷ e ∷ es) ((k, v) ∷ es) (e ∷ with_entry cmp k v es)))) [
          | Less ↦ λ p. both _ _ (both _ _ (subst (λ r. T (is_lt r)) (sym p) tt) (below_less k e.0 es p (first _ _ h))) h
          | Equal ↦ λ p. both _ _ (below_tied k e.0 es p (first _ _ h)) (second _ _ h)
          | Greater ↦ λ p. both _ _ (below_with e.0 k v es (subst (λ r. T (is_lt r)) (sym (o.antisymm e.0 k ∙ ap ordering_reverse p)) tt) (first _ _ h)) (sorted_with k v es (second _ _ h))
        ] refl

    -- a change keeps the keys in order
    pub sorted_changed : (m : List (K × V)) (k : K) (v : Option V) → T (is_sorted cmp m) → T (is_sorted cmp (changed cmp m k v))
    sorted_changed m k (Some v) h = sorted_with k v m h
    sorted_changed m k None h = is_sorted-where_key cmp (λ x. not (eq_by_cmp cmp k x)) m h

    entry_with : (q k : K) (v : V) (es : List (K × V)) → entry_at cmp q (with_entry cmp k v es) ≡ cond (eq_by_cmp cmp q k) (Some (k, v)) (entry_at cmp q es)
    entry_with q k v [] = refl
    entry_with q k v (e ∷ es) =
        elim (cmp k e.0) as (λ r. cmp k e.0 ≡ r → entry_at cmp q (by_order r ((k, v) ∷ e ∷ es) ((k, v) ∷ es) (e ∷ with_entry cmp k v es)) ≡ cond (eq_by_cmp cmp q k) (Some (k, v)) (entry_at cmp q (e ∷ es))) [
          | Less ↦ λ p. refl
          | Equal ↦ λ p. shadowed (eq_by_cmp cmp q k) (Some (k, v)) (Some e) (entry_at cmp q es)
              ∙ ap (λ r. cond (eq_by_cmp cmp q k) (Some (k, v)) (cond (is_eq r) (Some e) (entry_at cmp q es))) (alike_right o k e.0 q p)
          | Greater ↦ λ p. ap (cond (eq_by_cmp cmp q e.0) (Some e)) (entry_with q k v es) ∙ swapped _ _ _ _ _ (λ a b. subst (λ r. T (is_eq r)) (sym (joins o q k e.0 b a) ∙ p) tt)
        ] refl

    entry_without : (q k : K) (es : List (K × V)) → entry_at cmp q (without_key cmp k es) ≡ cond (eq_by_cmp cmp q k) None (entry_at cmp q es)
    entry_without q k [] = elim (eq_by_cmp cmp q k) as (λ b. entry_at {V = V} cmp q [] ≡ cond b None (entry_at {V = V} cmp q [])) [ true ↦ refl | false ↦ refl ]
    entry_without q k (e ∷ es) =
        let rest = entry_without q k es in
        elim (eq_by_cmp cmp k e.0) as (λ t. eq_by_cmp cmp k e.0 ≡ t → entry_at cmp q (cond (not t) (e ∷ without_key cmp k es) (without_key cmp k es)) ≡ cond (eq_by_cmp cmp q k) None (cond (eq_by_cmp cmp q e.0) (Some e) (entry_at cmp q es))) [
          | true ↦ λ t. rest ∙ shadowed (eq_by_cmp cmp q k) None (Some e) (entry_at cmp q es)
              ∙ ap (λ r. cond (eq_by_cmp cmp q k) None (cond (is_eq r) (Some e) (entry_at cmp q es))) (alike_right o k e.0 q (equal _ (subst T (sym t) tt)))
          | false ↦ λ t. ap (cond (eq_by_cmp cmp q e.0) (Some e)) rest ∙ swapped _ _ _ _ _ (λ a b. subst T (ap is_eq (sym (joins o q k e.0 b a)) ∙ t) tt)
        ] refl

    -- after a change the entry at its key is the new one, or none, and the others stay
    pub entry_changed : (m : List (K × V)) (k : K) (v : Option V) (q : K) → entry_at cmp q (changed cmp m k v) ≡ cond (eq_by_cmp cmp q k) (option_map (λ x. (k, x)) v) (entry_at cmp q m)
    entry_changed m k (Some v) q = entry_with q k v m
    entry_changed m k None q = entry_without q k m

    -- after a change the value at its key is the new one, or none, and the others stay
    pub find_changed : (m : List (K × V)) (k : K) (v : Option V) (q : K) → find cmp q (changed cmp m k v) ≡ cond (eq_by_cmp cmp q k) v (find cmp q m)
    find_changed m k v q =
        find_entry q (changed cmp m k v)
        ∙ ap (option_map (λ e. e.1)) (entry_changed m k v q)
        ∙ by_test (eq_by_cmp cmp q k)
        ∙ ap (cond (eq_by_cmp cmp q k) v) (sym (find_entry q m))
      where
        same : (v : Option V) → option_map (λ (e : K × V). e.1) (option_map (λ x. (k, x)) v) ≡ v
        same None = refl
        same (Some x) = refl

        by_test : (b : Bool) → option_map (λ (e : K × V). e.1) (cond b (option_map (λ x. (k, x)) v) (entry_at cmp q m)) ≡ cond b v (option_map (λ (e : K × V). e.1) (entry_at cmp q m))
        by_test true = same v
        by_test false = refl

  -- where keys that tie are one, an entry takes its place as std's maps have it
  pub with_is_put : ((a b : K) → cmp a b ≡ Equal → a ≡ b) → (k : K) (v : V) (es : List (K × V)) → with_entry cmp k v es ≡ put cmp k v es
  with_is_put exact k v [] = refl
  with_is_put exact k v (e ∷ es) =
      elim (cmp k e.0) as (λ r. cmp k e.0 ≡ r → by_order r ((k, v) ∷ e ∷ es) ((k, v) ∷ es) (e ∷ with_entry cmp k v es) ≡ by_order r ((k, v) ∷ e ∷ es) ((e.0, v) ∷ es) (e ∷ put cmp k v es)) [
        | Less ↦ λ p. refl
        | Equal ↦ λ p. ap (λ x. (x, v) ∷ es) (exact k e.0 p)
        | Greater ↦ λ p. ap (λ rest. e ∷ rest) (with_is_put exact k v es)
      ] refl
