-- How a change of one entry moves the weight of a map.
use Rattle.std.proofs.Common.{◌≡◌, ℕ, ◌+◌, ◌≤◌, cond, not, T, List, [], ◌∷◌, Option, Some, None, refl, sym, ap, subst, ◌∙◌, arith, Ordering, Less, Equal, Greater, is_lt, is_eq}
use Rattle.std.specs.Ordering.{ordering_reverse}
use Rattle.std.specs.Cmp.{IsTotalOrder}
use Rattle.std.specs.List.{sum_by, flat_map}
use Rattle.std.specs.FinMap.Entries.{by_order, find, is_sorted, below_all}
use Rattle.std.proofs.lemmas.List.Sums.{sum_by-append}
use Rattle.ante_undo.specs.Entries.{with_entry, without_key, changed}
use Rattle.ante_undo.proofs.Entries.{first, second, less}
use Rattle.ante_sums.specs.Weights.{weight_of, weight_at}

-- a sum over what each entry gives is the weight of the map
pub weight_flat : {K V X : Type 0} (g : X → ℕ) (f : K × V → List X) (es : List (K × V)) → sum_by g (flat_map f es) ≡ weight_of (λ e. sum_by g (f e)) es
weight_flat g f [] = refl
weight_flat g f (e ∷ es) = sum_by-append g (f e) (flat_map f es) ∙ ap (λ n. sum_by g (f e) + n) (weight_flat g f es)

module _ {K : Type 0} (cmp : K → K → Ordering) (o : IsTotalOrder cmp) where
  pub not_above : (k x : K) (r : Ordering) → cmp k x ≡ r → T (not (is_lt (ordering_reverse r))) → T (not (is_lt (cmp x k)))
  not_above k x r p h = subst (λ r. T (not (is_lt r))) (sym (o.antisymm x k ∙ ap ordering_reverse p)) h

module _ {K V : Type 0} (cmp : K → K → Ordering) (o : IsTotalOrder cmp) where
  -- no key after one that isn't below k ties with k
  pub absent : (k x : K) (es : List (K × V)) (r : Ordering) → cmp k x ≡ r → T (not (is_lt (cmp x k))) → T (below_all cmp x es) → find cmp k es ≡ None
  absent k x [] r p up h = refl
  absent k x (e ∷ es) Less p up h =
      ap (λ r. cond (is_eq r) (Some e.1) (find cmp k es)) (o.trans k x e.0 p (less _ (first _ _ h))) ∙ absent k x es Less p up (second _ _ h)
  absent k x (e ∷ es) Equal p up h =
      ap (λ r. cond (is_eq r) (Some e.1) (find cmp k es)) (o.congr k x e.0 p ∙ less _ (first _ _ h)) ∙ absent k x es Equal p up (second _ _ h)
  absent k x (e ∷ es) Greater p up h = absurd (subst (λ r. T (not (is_lt r))) (o.antisymm x k ∙ ap ordering_reverse p) up)

module _ {K V : Type 0} (cmp : K → K → Ordering) (weight : K × V → ℕ) (alike : (k x : K) (v : V) → cmp k x ≡ Equal → weight (x, v) ≡ weight (k, v)) where
  -- one entry is a part of the whole
  pub weight_within : (k : K) (es : List (K × V)) → weight_at weight k (find cmp k es) ≤ weight_of weight es
  weight_within k [] = omega arith
  weight_within k (e ∷ es) =
      let rest = weight_within k es in
      elim (cmp k e.0) as (λ r. cmp k e.0 ≡ r → weight_at weight k (cond (is_eq r) (Some e.1) (find cmp k es)) ≤ weight e + weight_of weight es) [
        | Less ↦ λ p. omega arith
        | Equal ↦ λ p. omega (arith, alike k e.0 e.1 p)
        | Greater ↦ λ p. omega arith
      ] refl

  module _ (o : IsTotalOrder cmp) where
    weight_with : (k : K) (v : V) (es : List (K × V)) → T (is_sorted cmp es) → weight_of weight (with_entry cmp k v es) + weight_at weight k (find cmp k es) ≡ weight_of weight es + weight (k, v)
    weight_with k v [] h = omega arith
    weight_with k v (e ∷ es) h =
        elim (cmp k e.0) as (λ r. cmp k e.0 ≡ r → weight_of weight (by_order r ((k, v) ∷ e ∷ es) ((k, v) ∷ es) (e ∷ with_entry cmp k v es)) + weight_at weight k (cond (is_eq r) (Some e.1) (find cmp k es)) ≡ weight e + weight_of weight es + weight (k, v)) [
          | Less ↦ λ p. let none = absent cmp o k e.0 es Less p (not_above cmp o k e.0 Less p tt) (first _ _ h) in omega (arith, ap (weight_at weight k) none)
          | Equal ↦ λ p. omega (arith, alike k e.0 e.1 p)
          | Greater ↦ λ p. let rest = weight_with k v es (second _ _ h) in omega arith
        ] refl

    weight_without : (k : K) (es : List (K × V)) → T (is_sorted cmp es) → weight_of weight (without_key cmp k es) + weight_at weight k (find cmp k es) ≡ weight_of weight es
    weight_without k [] h = refl
    weight_without k (e ∷ es) h =
        let rest = weight_without k es (second _ _ h) in
        elim (cmp k e.0) as (λ r. cmp k e.0 ≡ r → weight_of weight (cond (not (is_eq r)) (e ∷ without_key cmp k es) (without_key cmp k es)) + weight_at weight k (cond (is_eq r) (Some e.1) (find cmp k es)) ≡ weight e + weight_of weight es) [
          | Less ↦ λ p. omega arith
          | Equal ↦ λ p. let none = absent cmp o k e.0 es Equal p (not_above cmp o k e.0 Equal p tt) (first _ _ h) in omega (arith, ap (weight_at weight k) none, alike k e.0 e.1 p)
          | Greater ↦ λ p. omega arith
        ] refl

    -- the old value at the key goes out of the weight, and the new one comes in
    pub weight_changed : (es : List (K × V)) (k : K) (c : Option V) → T (is_sorted cmp es) → weight_of weight (changed cmp es k c) + weight_at weight k (find cmp k es) ≡ weight_of weight es + weight_at weight k c
    weight_changed es k (Some v) h = weight_with k v es h
    weight_changed es k None h = omega (arith, weight_without k es h)
