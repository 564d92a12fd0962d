-- What keeps the places beside a list: at a push, and at a row that is removed.
use Rattle.std.proofs.Common.{◌≡◌, ℕ, zero, suc, ◌<◌, ◌≤◌, ◌⊎◌, inl, inr, Bool, true, false, true≢false, cond, List, [], ◌∷◌, ◌++◌, length, get_or, Option, Some, None, unwrap_or, is_some, position, slice_get, refl, sym, ap, subst, ◌∙◌, Ordering, Less, Equal, Greater, is_eq, nat_lt, arith}
use Rattle.std.specs.List.{position_or_len}
use Rattle.std.specs.Map.{lookup}
use Rattle.std.specs.BTreeMap.{BTreeMap, get, is_at}
use Rattle.std.proofs.lemmas.Option.{slice_get_within, slice_get-get_or, get_or_from_slice_get}
use Rattle.std.proofs.lemmas.List.Sums.{fails_before_first}
use Rattle.std.proofs.lemmas.List.Quantifiers.{position-Some}
use Rattle.ante_itercache.specs.Places.{HasPlaces}

pub some_none : {X : Type 0} (x : X) → Some x ≡ None → ⊥
some_none x h = absurd (true≢false (ap is_some h))

pub inside : {X : Type 0} (x y : X) → Some x ≡ Some y → x ≡ y
inside x y h = ap (λ o. unwrap_or o x) h

-- ---- a list with one element more

module _ {X : Type 0} where
  pub get_front : (xs : List X) (y : X) (n : ℕ) (x : X) → slice_get xs n ≡ Some x → slice_get (xs ++ y ∷ []) n ≡ Some x
  get_front [] y n x h = absurd (some_none x (sym h))
  get_front (z ∷ xs) y zero x h = h
  get_front (z ∷ xs) y (suc n) x h = get_front xs y n x h

  pub get_end : (xs : List X) (y : X) → slice_get (xs ++ y ∷ []) (length xs) ≡ Some y
  get_end [] y = refl
  get_end (z ∷ xs) y = get_end xs y

  pub get_either : (xs : List X) (y : X) (n : ℕ) (x : X) → slice_get (xs ++ y ∷ []) n ≡ Some x → (slice_get xs n ≡ Some x) ⊎ ((length xs ≡ n) × (y ≡ x))
  get_either [] y zero x h = inr (refl, inside y x h)
  get_either [] y (suc n) x h = absurd (some_none x (sym h))
  get_either (z ∷ xs) y zero x h = inl h
  get_either (z ∷ xs) y (suc n) x h = on (get_either xs y n x h)
    where
      on : (slice_get xs n ≡ Some x) ⊎ ((length xs ≡ n) × (y ≡ x)) → (slice_get xs n ≡ Some x) ⊎ ((suc (length xs) ≡ suc n) × (y ≡ x))
      on (inl s) = inl s
      on (inr e) = inr (ap suc e.0, e.1)

  none_past : (p : X → Bool) (xs : List X) → position p xs ≡ None → length xs ≤ position_or_len p xs
  none_past p xs h = from (nat_lt (position_or_len p xs) (length xs)) refl h
    where
      from : (b : Bool) → nat_lt (position_or_len p xs) (length xs) ≡ b → cond b (Some (position_or_len p xs)) None ≡ None → length xs ≤ position_or_len p xs
      from true e h = absurd (some_none _ h)
      from false e h = grind arith

  pub none_passes : (p : X → Bool) (xs : List X) (n : ℕ) (x : X) → position p xs ≡ None → slice_get xs n ≡ Some x → p x ≡ true → ⊥
  none_passes p xs n x h at passes =
      let within : n < length xs = slice_get_within xs n x at in
      let past : length xs ≤ position_or_len p xs = none_past p xs h in
      let fails : p (get_or xs n x) ≡ false = fails_before_first p xs n x (omega arith) in
      true≢false (sym passes ∙ ap p (sym (get_or_from_slice_get xs n x x at)) ∙ fails)

-- ---- the places of what a list shows

module _ {K X : Type 0} (cmp : K → K → Ordering) (shown : K → X) where
  pub places_of_none : (m : BTreeMap K ℕ) (xs : List X) → m.entries ≡ [] → xs ≡ [] → HasPlaces cmp shown m xs
  unfolding HasPlaces
  places_of_none m xs e f = λ key place.
      (λ h. absurd (some_none place (sym (sym (ap (lookup (is_at (cmp key))) e) ∙ h))), λ h. absurd (some_none (shown key) (sym (sym (ap (λ xs. slice_get xs place) f) ∙ h))))

  pub places_stay : (m n : BTreeMap K ℕ) (xs ys : List X) → n.entries ≡ m.entries → ys ≡ xs → HasPlaces cmp shown m xs → HasPlaces cmp shown n ys
  unfolding HasPlaces
  places_stay m n xs ys e f h = λ key place. (
    λ is. ap (λ xs. slice_get xs place) f ∙ (h key place).0 (sym (ap (lookup (is_at (cmp key))) e) ∙ is),
    λ at. ap (lookup (is_at (cmp key))) e ∙ (h key place).1 (sym (ap (λ xs. slice_get xs place) f) ∙ at),
  )

  -- where one key alone passes the test, its place is the first that passes
  pub place_found : (p : X → Bool) (key : K) → ((x : X) → p x ≡ true → x ≡ shown key) → p (shown key) ≡ true → (m : BTreeMap K ℕ) (xs : List X) → HasPlaces cmp shown m xs → get cmp m key ≡ position p xs
  unfolding HasPlaces
  place_found p key one itself m xs h = from (position p xs) refl
    where
      from : (r : Option ℕ) → position p xs ≡ r → get cmp m key ≡ r
      from (Some i) e =
          let at = position-Some p xs i (shown key) e in
          (h key i).1 (slice_get-get_or xs i (shown key) at.0 ∙ ap Some (one _ at.1))
      from None e = missing (get cmp m key) refl
        where
          missing : (r : Option ℕ) → get cmp m key ≡ r → r ≡ None
          missing None is = refl
          missing (Some n) is = absurd (none_passes p xs n (shown key) e ((h key n).0 is) itself)

  -- the order tells keys apart, and the list shows them apart
  module _ (ties : (a b : K) → cmp a b ≡ Equal → a ≡ b) (itself : (a : K) → cmp a a ≡ Equal) (apart : (a b : K) → shown a ≡ shown b → a ≡ b) where
    pub place_added : (m n : BTreeMap K ℕ) (xs : List X) (key : K) → HasPlaces cmp shown m xs → get cmp m key ≡ None → ((q : K) → get cmp n q ≡ cond (is_eq (cmp key q)) (Some (length xs)) (get cmp m q)) → HasPlaces cmp shown n (xs ++ shown key ∷ [])
    unfolding HasPlaces
    place_added m n xs key h absent updates = λ q place. (λ is. there q place (cmp key q) refl (sym (updates q) ∙ is), λ at. back q place (get_either xs (shown key) place (shown q) at))
      where
        there : (q : K) (place : ℕ) (r : Ordering) → cmp key q ≡ r → cond (is_eq r) (Some (length xs)) (get cmp m q) ≡ Some place → slice_get (xs ++ shown key ∷ []) place ≡ Some (shown q)
        there q place Less e is = get_front xs (shown key) place (shown q) ((h q place).0 is)
        there q place Greater e is = get_front xs (shown key) place (shown q) ((h q place).0 is)
        there q place Equal e is = subst (λ k. slice_get (xs ++ shown key ∷ []) k ≡ Some (shown q)) (inside _ _ is) (get_end xs (shown key) ∙ ap (λ k. Some (shown k)) (ties key q e))

        other : (q : K) (place : ℕ) (r : Ordering) → cmp key q ≡ r → get cmp m q ≡ Some place → cond (is_eq r) (Some (length xs)) (get cmp m q) ≡ Some place
        other q place Less e is = is
        other q place Greater e is = is
        other q place Equal e is = absurd (some_none place (sym is ∙ ap (get cmp m) (sym (ties key q e)) ∙ absent))

        back : (q : K) (place : ℕ) → (slice_get xs place ≡ Some (shown q)) ⊎ ((length xs ≡ place) × (shown key ≡ shown q)) → get cmp n q ≡ Some place
        back q place (inl at) = updates q ∙ other q place (cmp key q) refl ((h q place).1 at)
        back q place (inr e) =
            updates q ∙ ap (λ r. cond (is_eq r) (Some (length xs)) (get cmp m q)) (ap (cmp key) (sym (apart key q e.1)) ∙ itself key) ∙ ap Some e.0

    -- the same in the words of the calls
    pub place_pushed : (m n : BTreeMap K ℕ) (xs ys : List X) (key : K) (at : ℕ) → at ≡ length xs → ys ≡ xs ++ shown key ∷ [] → HasPlaces cmp shown m xs → get cmp m key ≡ None → ((q : K) → get cmp n q ≡ cond (is_eq (cmp key q)) (Some at) (get cmp m q)) → HasPlaces cmp shown n ys
    place_pushed m n xs ys key at e f h absent updates =
        subst (HasPlaces cmp shown n) (sym f) (place_added m n xs key h absent (λ q. updates q ∙ ap (λ k. cond (is_eq (cmp key q)) (Some k) (get cmp m q)) e))
