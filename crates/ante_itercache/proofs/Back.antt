-- The last of a list is taken back: in the map its place goes, if it had one.
use Rattle.std.proofs.Common.{◌≡◌, ℕ, zero, suc, ◌<◌, ◌⊎◌, inl, inr, true, true≢false, cond, List, [], ◌∷◌, ◌++◌, length, Option, Some, None, slice_get, refl, sym, ap, subst, ◌∙◌, Ordering, Less, Equal, Greater, is_eq, arith}
use Rattle.std.proofs.lemmas.Option.{slice_get_within}
use Rattle.std.specs.BTreeMap.{BTreeMap, get}
use Rattle.ante_itercache.specs.Places.{HasPlaces}
use Rattle.ante_itercache.proofs.Places.{some_none, inside, get_front, get_end, get_either}

module _ {K X : Type 0} (cmp : K → K → Ordering) (shown : K → X) where
  -- what shows no key has no place
  pub none_popped : (m : BTreeMap K ℕ) (ys : List X) (x : X) → ((q : K) → x ≡ shown q → ⊥) → HasPlaces cmp shown m (ys ++ x ∷ []) → HasPlaces cmp shown m ys
  unfolding HasPlaces
  none_popped m ys x hidden h = λ q k. (λ is. on q k (get_either ys x k (shown q) ((h q k).0 is)), λ at. (h q k).1 (get_front ys x k (shown q) at))
    where
      on : (q : K) (k : ℕ) → (slice_get ys k ≡ Some (shown q)) ⊎ ((length ys ≡ k) × (x ≡ shown q)) → slice_get ys k ≡ Some (shown q)
      on q k (inl at) = at
      on q k (inr e) = absurd (hidden q e.1)

  module _ (ties : (a b : K) → cmp a b ≡ Equal → a ≡ b) (itself : (a : K) → cmp a a ≡ Equal) (apart : (a b : K) → shown a ≡ shown b → a ≡ b) where
    pub place_popped : (m n : BTreeMap K ℕ) (ys : List X) (key : K) → HasPlaces cmp shown m (ys ++ shown key ∷ []) → ((q : K) → get cmp n q ≡ cond (is_eq (cmp key q)) None (get cmp m q)) → HasPlaces cmp shown n ys
    unfolding HasPlaces
    place_popped m n ys key h updates = λ q k. (λ is. there q k (cmp key q) refl (sym (updates q) ∙ is), λ at. updates q ∙ back q k at (cmp key q) refl)
      where
        elsewhere : (q : K) (k : ℕ) → (cmp key q ≡ Equal → ⊥) → (slice_get ys k ≡ Some (shown q)) ⊎ ((length ys ≡ k) × (shown key ≡ shown q)) → slice_get ys k ≡ Some (shown q)
        elsewhere q k differ (inl at) = at
        elsewhere q k differ (inr e) = absurd (differ (ap (cmp key) (sym (apart key q e.1)) ∙ itself key))

        there : (q : K) (k : ℕ) (r : Ordering) → cmp key q ≡ r → cond (is_eq r) None (get cmp m q) ≡ Some k → slice_get ys k ≡ Some (shown q)
        there q k Less e is = elsewhere q k (λ f. absurd (true≢false (sym (ap is_eq (sym e ∙ f))))) (get_either ys (shown key) k (shown q) ((h q k).0 is))
        there q k Greater e is = elsewhere q k (λ f. absurd (true≢false (sym (ap is_eq (sym e ∙ f))))) (get_either ys (shown key) k (shown q) ((h q k).0 is))
        there q k Equal e is = absurd (some_none k (sym is))

        before : (q : K) (k : ℕ) → slice_get ys k ≡ Some (shown q) → get cmp m q ≡ Some k
        before q k at = (h q k).1 (get_front ys (shown key) k (shown q) at)

        back : (q : K) (k : ℕ) → slice_get ys k ≡ Some (shown q) → (r : Ordering) → cmp key q ≡ r → cond (is_eq r) None (get cmp m q) ≡ Some k
        back q k at Less e = before q k at
        back q k at Greater e = before q k at
        back q k at Equal e =
            let within : k < length ys = slice_get_within ys k (shown q) at in
            let last : get cmp m key ≡ Some (length ys) = (h key (length ys)).1 (get_end ys (shown key)) in
            let same : k ≡ length ys = inside _ _ (sym (before q k at) ∙ ap (get cmp m) (sym (ties key q e)) ∙ last) in
            absurd (omega arith)
