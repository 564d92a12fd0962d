-- What the slots hold, and what becomes of the map when a slot changes.
use Rattle.std.proofs.Common.{◌≡◌, ℕ, ◌+◌, ◌-◌, Bool, true, false, true≢false, cond, not, ◌||◌, nat_lt, T, List, [], ◌∷◌, is_some, Option, Some, None, refl, sym, ap, subst, ◌∙◌, Ordering, Less, Equal, Greater, is_lt, is_eq, arith}
use Rattle.std.specs.Ordering.{ordering_reverse, eq_by_cmp}
use Rattle.std.specs.Option.{option_and_then, option_map_or}
use Rattle.std.specs.Cmp.{IsTotalOrder}
use Rattle.std.specs.List.{AllByRecursion}
use Rattle.std.specs.List.Sorted.{IsStrictlySortedBy}
use Rattle.std.specs.Map.{keys_of}
use Rattle.std.specs.FinMap.{IsAntisymmetric}
use Rattle.std.specs.FinMap.Entries.{find, is_sorted, below_all, same_entries, find_tied}
use Rattle.std.proofs.lemmas.Bool.{ltb-false}
use Rattle.ante_undo.specs.declared.slots.Slot.{Slot}
use Rattle.ante_undo.specs.Entries.{changed}
use Rattle.ante_undo.specs.Slots.{slot_of, with_value, live, slot_at, value_at, mentions_at, Sets}
use Rattle.ante_undo.specs.Logs.{IsTidy}
use Rattle.ante_undo.proofs.Entries.{both, first, second, less, equal, sorted_changed, find_changed}

less_is : (o : Ordering) → o ≡ Less → T (is_lt o)
less_is o e = subst (λ r. T (is_lt r)) (sym e) tt

reversed : (o : Ordering) → is_eq (ordering_reverse o) ≡ is_eq o
reversed Less = refl
reversed Equal = refl
reversed Greater = refl

through : {X Y : Type 0} (f : X → Y) (b : Bool) (x y : X) → f (cond b x y) ≡ cond b (f x) (f y)
through f true x y = refl
through f false x y = refl

none_counted : (n : ℕ) → nat_lt 0 n ≡ false → 0 ≡ n
none_counted n e = let low = ltb-false 0 n e in omega arith

pub flipped : {K : Type 0} {cmp : K → K → Ordering} → IsTotalOrder cmp → (q k : K) → eq_by_cmp cmp q k ≡ eq_by_cmp cmp k q
flipped {cmp = cmp} o q k = ap is_eq (o.antisymm q k) ∙ reversed (cmp k q)

module _ {V : Type 0} where
  abbrev slot : Option V → ℕ → Slot V
  slot v n = record { value = v; mentions = n }

  abbrev value_in : Option (Slot V) → Option V
  value_in o = option_and_then (λ (s : Slot V). s.value) o

  abbrev mentions_in : Option (Slot V) → ℕ
  mentions_in o = option_map_or (λ (s : Slot V). s.mentions) o 0

  pub value_of_slot : (v : Option V) (n : ℕ) → value_in (slot_of v n) ≡ v
  value_of_slot (Some v) n = refl
  value_of_slot None n = elim (nat_lt 0 n) as (λ b. value_in (cond b (Some (slot None n)) None) ≡ None) [ true ↦ refl | false ↦ refl ]

  pub mentions_of_slot : (v : Option V) (n : ℕ) → mentions_in (slot_of v n) ≡ n
  mentions_of_slot (Some v) n = refl
  mentions_of_slot None n =
      elim (nat_lt 0 n) as (λ b. nat_lt 0 n ≡ b → mentions_in (cond b (Some (slot None n)) None) ≡ n) [
        | true ↦ λ e. refl
        | false ↦ λ e. none_counted n e
      ] refl

  pub tidy_slot : (v : Option V) (n : ℕ) → is_some (slot_of v n) ≡ (is_some v || nat_lt 0 n)
  tidy_slot (Some v) n = refl
  tidy_slot None n = elim (nat_lt 0 n) as (λ b. is_some (cond b (Some (slot None n)) None) ≡ (false || b)) [ true ↦ refl | false ↦ refl ]

module _ {K V : Type 0} (cmp : K → K → Ordering) where
  once : (v : Option V) → Some (record { value = v; mentions = 1 }) ≡ slot_of v 1
  once None = refl
  once (Some x) = refl

  -- a key that had no slot is named for the first time
  pub first_named : (old new : List (K × Slot V)) (k : K) (v : Option V) (q : K) → slot_at cmp k old ≡ None →
      slot_at cmp q new ≡ cond (eq_by_cmp cmp k q) (Some (record { value = v; mentions = 1 })) (slot_at cmp q old) → slot_at cmp q new ≡ cond (eq_by_cmp cmp k q) (slot_of v (mentions_at cmp k old + 1)) (slot_at cmp q old)
  first_named old new k v q none step =
      step ∙ ap (λ s. cond (eq_by_cmp cmp k q) s (slot_at cmp q old)) (once v ∙ ap (λ (o : Option (Slot V)). slot_of v (option_map_or (λ s. s.mentions) o 0 + 1)) (sym none))

  -- a slot that a mention has left: it goes where nothing is left of it, and else stays
  module _ (k : K) (old : List (K × Slot V)) (s left : Slot V) (v : Option V) (found : Some s ≡ slot_at cmp k old) (is : left ≡ record { value = v; mentions = s.mentions - 1 }) where
    left_slot : slot_of left.value left.mentions ≡ slot_of v (mentions_at cmp k old - 1)
    left_slot = ap (λ (l : Slot V). slot_of l.value l.mentions) is ∙ ap (λ (o : Option (Slot V)). slot_of v (option_map_or (λ s. s.mentions) o 0 - 1)) found

    pub left_out : (q : K) (o : Option (Slot V)) → not (is_some left.value || nat_lt 0 left.mentions) ≡ true → o ≡ cond (eq_by_cmp cmp k q) None (slot_at cmp q old) → o ≡ cond (eq_by_cmp cmp k q) (slot_of v (mentions_at cmp k old - 1)) (slot_at cmp q old)
    left_out q o spent step = step ∙ ap (λ w. cond (eq_by_cmp cmp k q) w (slot_at cmp q old)) (gone (is_some left.value || nat_lt 0 left.mentions) spent ∙ left_slot)
      where
        gone : (b : Bool) → not b ≡ true → None ≡ cond b (Some left) None
        gone true h = absurd (true≢false (sym h))
        gone false h = refl

    pub left_in : (q : K) (o : Option (Slot V)) → not (is_some left.value || nat_lt 0 left.mentions) ≡ false → o ≡ cond (eq_by_cmp cmp k q) (Some left) (slot_at cmp q old) → o ≡ cond (eq_by_cmp cmp k q) (slot_of v (mentions_at cmp k old - 1)) (slot_at cmp q old)
    left_in q o kept step = step ∙ ap (λ w. cond (eq_by_cmp cmp k q) w (slot_at cmp q old)) (stays (is_some left.value || nat_lt 0 left.mentions) kept ∙ left_slot)
      where
        stays : (b : Bool) → not b ≡ false → Some left ≡ cond b (Some left) None
        stays true h = refl
        stays false h = absurd (true≢false h)

  module _ (k : K) (v : Option V) (n : ℕ) (old new : List (K × Slot V)) (sets : Sets cmp k v n old new) where
    pub values_set : (q : K) → value_at cmp q new ≡ cond (eq_by_cmp cmp k q) v (value_at cmp q old)
    values_set q =
        ap value_in (sets q)
        ∙ through value_in (eq_by_cmp cmp k q) (slot_of v n) (slot_at cmp q old)
        ∙ ap (λ w. cond (eq_by_cmp cmp k q) w (value_at cmp q old)) (value_of_slot v n)

    pub mentions_set : (q : K) → mentions_at cmp q new ≡ cond (eq_by_cmp cmp k q) n (mentions_at cmp q old)
    mentions_set q =
        ap mentions_in (sets q)
        ∙ through mentions_in (eq_by_cmp cmp k q) (slot_of v n) (slot_at cmp q old)
        ∙ ap (λ w. cond (eq_by_cmp cmp k q) w (mentions_at cmp q old)) (mentions_of_slot v n)

    pub tidy_set : IsTidy cmp old → IsTidy cmp new
    tidy_set tidy q =
        ap is_some (sets q)
        ∙ by_test (eq_by_cmp cmp k q)
        ∙ sym (ap (λ w. is_some w || nat_lt 0 (mentions_at cmp q new)) (values_set q) ∙ ap (λ m. is_some (cond (eq_by_cmp cmp k q) v (value_at cmp q old)) || nat_lt 0 m) (mentions_set q))
      where
        by_test : (b : Bool) → is_some (cond b (slot_of v n) (slot_at cmp q old)) ≡ (is_some (cond b v (value_at cmp q old)) || nat_lt 0 (cond b n (mentions_at cmp q old)))
        by_test true = tidy_slot v n
        by_test false = tidy q

  module _ (o : IsTotalOrder cmp) where
    below_live : (x : K) (es : List (K × Slot V)) → AllByRecursion (λ y. cmp x y ≡ Less) (keys_of es) → T (below_all cmp x (live es))
    below_live x [] h = tt
    below_live x (e ∷ es) h =
        let rest = below_live x es h.1 in
        elim e.1.value as (λ v. T (below_all cmp x (with_value e.0 v (live es)))) [ None ↦ rest | Some v ↦ both _ _ (less_is _ h.0) rest ]

    -- the map's keys rise as those of the slots do
    pub sorted_live : (es : List (K × Slot V)) → IsStrictlySortedBy cmp (keys_of es) → T (is_sorted cmp (live es))
    unfolding IsStrictlySortedBy
    sorted_live [] h = tt
    sorted_live (e ∷ es) h =
        let rest = sorted_live es h.1 in
        elim e.1.value as (λ v. T (is_sorted cmp (with_value e.0 v (live es)))) [ None ↦ rest | Some v ↦ both _ _ (below_live e.0 es h.0) rest ]

    none_below : (q : K) (m : List (K × V)) → T (below_all cmp q m) → find cmp q m ≡ None
    none_below q [] h = refl
    none_below q (e ∷ es) h = ap (λ r. cond (is_eq r) (Some e.1) (find cmp q es)) (less _ (first _ _ h)) ∙ none_below q es (second _ _ h)

    none_tied : (q x : K) (m : List (K × V)) → cmp q x ≡ Equal → T (below_all cmp x m) → find cmp q m ≡ None
    none_tied q x m tied h = sym (find_tied cmp o q x tied m) ∙ none_below x m h

    -- what the map has at a key is its slot's value
    pub find_live : (q : K) (es : List (K × Slot V)) → IsStrictlySortedBy cmp (keys_of es) → find cmp q (live es) ≡ value_at cmp q es
    unfolding IsStrictlySortedBy
    find_live q [] h = refl
    find_live q (e ∷ es) h =
        let rest = find_live q es h.1 in
        elim (eq_by_cmp cmp q e.0) as (λ b. eq_by_cmp cmp q e.0 ≡ b → find cmp q (with_value e.0 e.1.value (live es)) ≡ option_and_then (λ s. s.value) (cond b (Some e.1) (slot_at cmp q es))) [
          | true ↦ λ t. here e.1.value t h.0
          | false ↦ λ t. there e.1.value t ∙ rest
        ] refl
      where
        here : (v : Option V) → eq_by_cmp cmp q e.0 ≡ true → AllByRecursion (λ y. cmp e.0 y ≡ Less) (keys_of es) → find cmp q (with_value e.0 v (live es)) ≡ v
        here None t h = none_tied q e.0 (live es) (equal _ (subst T (sym t) tt)) (below_live e.0 es h)
        here (Some v) t h = ap (λ b. cond b (Some v) (find cmp q (live es))) t

        there : (v : Option V) → eq_by_cmp cmp q e.0 ≡ false → find cmp q (with_value e.0 v (live es)) ≡ find cmp q (live es)
        there None t = refl
        there (Some v) t = ap (λ b. cond b (Some v) (find cmp q (live es))) t

    module _ (exact : IsAntisymmetric cmp) where
      pub same_live : (es fs : List (K × Slot V)) → IsStrictlySortedBy cmp (keys_of es) → IsStrictlySortedBy cmp (keys_of fs) → ((q : K) → value_at cmp q es ≡ value_at cmp q fs) → live es ≡ live fs
      same_live es fs s t is = same_entries cmp o exact (live es) (live fs) (sorted_live es s) (sorted_live fs t) (λ q. find_live q es s ∙ is q ∙ sym (find_live q fs t))

      -- a new value at a key is a change of the map
      pub live_changed : (es fs : List (K × Slot V)) (k : K) (v : Option V) → IsStrictlySortedBy cmp (keys_of es) → IsStrictlySortedBy cmp (keys_of fs) →
          ((q : K) → value_at cmp q fs ≡ cond (eq_by_cmp cmp k q) v (value_at cmp q es)) → live fs ≡ changed cmp (live es) k v
      live_changed es fs k v s t is =
          same_entries cmp o exact (live fs) (changed cmp (live es) k v) (sorted_live fs t) (sorted_changed cmp o (live es) k v (sorted_live es s))
          (λ q. find_live q fs t ∙ is q ∙ ap (λ w. cond (eq_by_cmp cmp k q) v w) (sym (find_live q es s)) ∙ ap (λ b. cond b v (find cmp q (live es))) (flipped o k q) ∙ sym (find_changed cmp o (live es) k v q))

      -- what a change replaced, put again, takes the change back
      pub changed_back : (m : List (K × V)) (k : K) (v : Option V) → T (is_sorted cmp m) → changed cmp (changed cmp m k v) k (find cmp k m) ≡ m
      changed_back m k v s =
          same_entries cmp o exact (changed cmp (changed cmp m k v) k (find cmp k m)) m (sorted_changed cmp o (changed cmp m k v) k (find cmp k m) (sorted_changed cmp o m k v s)) s
          (λ q. find_changed cmp o (changed cmp m k v) k (find cmp k m) q ∙ ap (cond (eq_by_cmp cmp q k) (find cmp k m)) (find_changed cmp o m k v q) ∙ by_test q)
        where
          by_test : (q : K) → cond (eq_by_cmp cmp q k) (find cmp k m) (cond (eq_by_cmp cmp q k) v (find cmp q m)) ≡ find cmp q m
          by_test q =
              elim (eq_by_cmp cmp q k) as (λ b. eq_by_cmp cmp q k ≡ b → cond b (find cmp k m) (cond b v (find cmp q m)) ≡ find cmp q m) [
                | true ↦ λ t. find_tied cmp o q k (equal _ (subst T (sym t) tt)) m
                | false ↦ λ t. refl
              ] refl

is_true : (b : Bool) → T b → b ≡ true
is_true true p = refl
is_true false p = absurd p

module _ {K V : Type 0} (cmp : K → K → Ordering) (o : IsTotalOrder cmp) where
  pub rising_live : (es : List (K × Slot V)) → IsStrictlySortedBy cmp (keys_of es) → is_sorted cmp (live es) ≡ true
  rising_live es s = is_true (is_sorted cmp (live es)) (sorted_live cmp o es s)
