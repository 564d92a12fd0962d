-- What slots and logs stand for, and what holds of them, after each call has changed them.
use Rattle.std.proofs.Common.{◌≡◌, ℕ, ◌+◌, ◌-◌, ◌^◌, ◌<◌, ◌≤◌, true, false, true≢false, cond, T, List, [], ◌∷◌, ◌++◌, length, Option, Some, None, IsNone, refl, sym, ap, subst, ◌∙◌, Ordering, append_assoc, arith}
use Rattle.std.specs.Ordering.{eq_by_cmp}
use Rattle.std.specs.Cmp.{IsTotalOrder}
use Rattle.std.specs.List.Sorted.{IsStrictlySortedBy}
use Rattle.std.specs.Map.{keys_of}
use Rattle.std.specs.FinMap.{IsAntisymmetric}
use Rattle.ante_undo.specs.declared.slots.Slot.{Slot}
use Rattle.ante_undo.specs.declared.logs.Aside.{Aside}
use Rattle.ante_undo.specs.Entries.{changed}
use Rattle.ante_undo.specs.Stack.{Stack, Shelf, with_top, begun, IsSquashed, IsAbove}
use Rattle.ante_undo.specs.Slots.{live, value_at, mentions_at, Sets}
use Rattle.ante_undo.specs.Logs.{one_if, total, named_in, named_in_all, taken_back, taken_back_all, maps_under, AddsEntry, AddsLog, Releases}
use Rattle.ante_undo.specs.Kept.{below_of, shelved_of, HasRoom, shelf_shown, stack_shown, IsKept}
use Rattle.ante_undo.proofs.Entries.{equal}
use Rattle.ante_undo.proofs.Live.{values_set, mentions_set, tidy_set, find_live, sorted_live, live_changed, changed_back}
use Rattle.ante_undo.proofs.Back.{total_append, length_append, named_append, named_append_all, back_append, back_append_all, under_last, length_under, named_few_all}

pub same_stack : {M : Type 0} {u u2 : List M} {t t2 : M} {r r2 : ℕ} {s s2 : Option (Shelf M)} → u ≡ u2 → t ≡ t2 → r ≡ r2 → s ≡ s2 →
    ◌≡◌ {A = Stack M} (record { under = u; top = t; revision = r; shelf = s }) (record { under = u2; top = t2; revision = r2; shelf = s2 })
same_stack u t r s = λ i. record { under = u i; top = t i; revision = r i; shelf = s i }

module _ {K V : Type 0} (cmp : K → K → Ordering) where
  -- the stack as the newest session's log has it
  pub split_shown : (es : List (K × Slot V)) (front : List (List (K × Option V))) (log : List (K × Option V)) (shelf : Option (Aside K V)) (r : ℕ) →
      stack_shown cmp es (front ++ log ∷ []) shelf r
      ≡ record { under = maps_under cmp (taken_back cmp (live es) log) (below_of shelf ++ front) ++ taken_back cmp (live es) log ∷ []; top = live es; revision = r; shelf = shelf_shown cmp (taken_back_all cmp (taken_back cmp (live es) log) front) (r - (length front + 1)) shelf }
  split_shown es front log shelf r =
      same_stack
      (ap (maps_under cmp (live es)) (sym (append_assoc (below_of shelf) front (log ∷ []))) ∙ under_last cmp (live es) (below_of shelf ++ front) log)
      refl
      refl
      (ap (λ m. shelf_shown cmp m (r - length (front ++ log ∷ [])) shelf) (back_append_all cmp (live es) front (log ∷ []))
      ∙ ap (λ n. shelf_shown cmp (taken_back_all cmp (taken_back cmp (live es) log) front) (r - n) shelf) (length_append front (log ∷ [])))

  module _ (es : List (K × Slot V)) (opened : List (List (K × Option V))) (changes r : ℕ) where
    -- sessions that stand above the shelf are among the open ones
    pub open_above : (shelf : Option (Aside K V)) (n : ℕ) → IsKept cmp es opened shelf changes r → n ≤ length (maps_under cmp (live es) (below_of shelf ++ opened)) → IsAbove n (stack_shown cmp es opened shelf r) → n ≤ length opened
    open_above None n h some above = let long = length_under cmp (live es) opened in omega arith
    open_above (Some s) n h some above = let within = h.sessions in let up : r - length opened + n ≤ r = above in omega arith

    pub closed_off : (shelf : Option (Aside K V)) → opened ≡ [] → IsAbove 1 (stack_shown cmp es opened shelf r) → shelf ≡ None
    closed_off None none above = refl
    closed_off (Some s) none above = let up : r - length opened + 1 ≤ r = above in let zero = ap length none in absurd (omega arith)

    pub no_shelf : (shelf : Option (Aside K V)) → IsNone (shelf_shown cmp (taken_back_all cmp (live es) opened) (r - length opened) shelf) → shelf ≡ None
    no_shelf None e = refl
    no_shelf (Some s) e = absurd (true≢false e)

    -- what is named is counted
    pub open_named : (shelf : Option (Aside K V)) → IsKept cmp es opened shelf changes r → (q : K) → named_in_all cmp q opened ≤ mentions_at cmp q es
    open_named shelf h q = let counted = h.counted q in omega arith

    pub few_named : (shelf : Option (Aside K V)) → IsKept cmp es opened shelf changes r → (q : K) → mentions_at cmp q es < 2 ^ 63
    few_named shelf h q =
        let counted = h.counted q in
        let few = h.few in
        let bound = h.bound in
        let below = named_few_all cmp q (below_of shelf) in
        let above = named_few_all cmp q opened in
        let aside = named_few_all cmp q (shelved_of shelf) in
        omega arith

  module _ (o : IsTotalOrder cmp) (exact : IsAntisymmetric cmp) (es fs : List (K × Slot V)) (s : IsStrictlySortedBy cmp (keys_of es)) (t : IsStrictlySortedBy cmp (keys_of fs)) where
    counted_more : (k : K) (q : K) → cond (eq_by_cmp cmp k q) (mentions_at cmp k es + 1) (mentions_at cmp q es) ≡ mentions_at cmp q es + one_if (eq_by_cmp cmp k q)
    counted_more k q =
        elim (eq_by_cmp cmp k q) as (λ b. eq_by_cmp cmp k q ≡ b → cond b (mentions_at cmp k es + 1) (mentions_at cmp q es) ≡ mentions_at cmp q es + one_if b) [
          | true ↦ λ e. ap (λ x. mentions_at cmp x es + 1) (exact k q (equal _ (subst T (sym e) tt)))
          | false ↦ λ e. omega arith
        ] refl

    -- a change, and in the log what it replaced, are taken back together
    pub logged_back : (k : K) (v : Option V) (n : ℕ) (log : List (K × Option V)) → Sets cmp k v n es fs → taken_back cmp (live fs) (log ++ (k, value_at cmp k es) ∷ []) ≡ taken_back cmp (live es) log
    logged_back k v n log sets =
        back_append cmp (live fs) log ((k, value_at cmp k es) ∷ [])
        ∙ ap (λ m. taken_back cmp (changed cmp m k (value_at cmp k es)) log) (live_changed cmp o exact es fs k v s t (values_set cmp k v n es fs sets))
        ∙ ap (λ w. taken_back cmp (changed cmp (changed cmp (live es) k v) k w) log) (sym (find_live cmp o k es s))
        ∙ ap (λ m. taken_back cmp m log) (changed_back cmp o exact (live es) k v (sorted_live cmp o es s))

    module _ (k : K) (v : Option V) (sets : Sets cmp k v (mentions_at cmp k es + 1) es fs) (front : List (List (K × Option V))) (log : List (K × Option V)) (shelf : Option (Aside K V)) (changes r : ℕ) where
      pub logged_kept : IsKept cmp es (front ++ log ∷ []) shelf changes r → changes + 1 < 2 ^ 63 → IsKept cmp fs (front ++ (log ++ (k, value_at cmp k es) ∷ []) ∷ []) shelf (changes + 1) r
      logged_kept h more =
          let c : K × Option V = (k, value_at cmp k es) in
          let long = length_append front (log ∷ []) in
          let longer = length_append front ((log ++ c ∷ []) ∷ []) in
          record {
            exact = exact;
            ordered = t;
            tidy = tidy_set cmp k v (mentions_at cmp k es + 1) es fs sets h.tidy;
            counted = λ q.
                let before = h.counted q in
                let now : mentions_at cmp q fs ≡ mentions_at cmp q es + one_if (eq_by_cmp cmp k q) = mentions_set cmp k v (mentions_at cmp k es + 1) es fs sets q ∙ counted_more k q in
                let old = named_append_all cmp q front (log ∷ []) in
                let new = named_append_all cmp q front ((log ++ c ∷ []) ∷ []) in
                let entry = named_append cmp q log (c ∷ []) in
                omega arith;
            few =
                let few = h.few in
                let old = total_append front (log ∷ []) in
                let new = total_append front ((log ++ c ∷ []) ∷ []) in
                let entry = length_append log (c ∷ []) in
                omega arith;
            bound = more;
            small = h.small;
            sessions = let within = h.sessions in omega arith;
            room = subst (HasRoom shelf) (let same : length (front ++ log ∷ []) ≡ length (front ++ (log ++ c ∷ []) ∷ []) = omega arith in ap (λ n. r - n) same) h.room;
          }

      pub logged_shown : stack_shown cmp fs (front ++ (log ++ (k, value_at cmp k es) ∷ []) ∷ []) shelf r ≡ with_top (changed cmp (live es) k v) (stack_shown cmp es (front ++ log ∷ []) shelf r)
      logged_shown =
          let back = logged_back k v (mentions_at cmp k es + 1) log sets in
          split_shown fs front (log ++ (k, value_at cmp k es) ∷ []) shelf r
          ∙ same_stack
          (ap (λ b. maps_under cmp b (below_of shelf ++ front) ++ b ∷ []) back)
          (live_changed cmp o exact es fs k v s t (values_set cmp k v (mentions_at cmp k es + 1) es fs sets))
          refl
          (ap (λ b. shelf_shown cmp (taken_back_all cmp b front) (r - (length front + 1)) shelf) back)
          ∙ ap (with_top (changed cmp (live es) k v)) (sym (split_shown es front log shelf r))

    module _ (k : K) (v : Option V) (sets : Sets cmp k v 0 es fs) (changes r : ℕ) where
      zero_or_none : (q : K) → mentions_at cmp q es ≡ 0 → cond (eq_by_cmp cmp k q) 0 (mentions_at cmp q es) ≡ 0
      zero_or_none q none = elim (eq_by_cmp cmp k q) as (λ b. cond b 0 (mentions_at cmp q es) ≡ 0) [ true ↦ refl | false ↦ none ]

      pub set_kept : IsKept cmp es [] None changes r → IsKept cmp fs [] None changes r
      set_kept h = record {
        exact = exact;
        ordered = t;
        tidy = tidy_set cmp k v 0 es fs sets h.tidy;
        counted = λ q. mentions_set cmp k v 0 es fs sets q ∙ zero_or_none q (h.counted q);
        few = h.few;
        bound = h.bound;
        small = h.small;
        sessions = h.sessions;
        room = tt;
      }

      pub set_shown : stack_shown cmp fs [] None r ≡ with_top (changed cmp (live es) k v) (stack_shown cmp es [] None r)
      set_shown = same_stack refl (live_changed cmp o exact es fs k v s t (values_set cmp k v 0 es fs sets)) refl refl

  module _ (es : List (K × Slot V)) (opened : List (List (K × Option V))) (shelf : Option (Aside K V)) (changes r : ℕ) where
    pub begun_kept : IsKept cmp es opened shelf changes r → r + 1 < 2 ^ 63 → IsKept cmp es (opened ++ [] ∷ []) shelf changes (r + 1)
    begun_kept h small =
        let long = length_append opened ([] ∷ []) in
        record {
          exact = h.exact;
          ordered = h.ordered;
          tidy = h.tidy;
          counted = λ q. let before = h.counted q in let parts = named_append_all cmp q opened ([] ∷ []) in omega arith;
          few = let few = h.few in let parts = total_append opened ([] ∷ []) in omega arith;
          bound = h.bound;
          small = small;
          sessions = let within = h.sessions in omega arith;
          room = subst (HasRoom shelf) (let same : r - length opened ≡ r + 1 - length (opened ++ [] ∷ []) = omega arith in same) h.room;
        }

    pub begun_shown : stack_shown cmp es (opened ++ [] ∷ []) shelf (r + 1) ≡ begun (stack_shown cmp es opened shelf r)
    begun_shown =
        split_shown es opened [] shelf (r + 1)
        ∙ same_stack refl refl refl (ap (λ n. shelf_shown cmp (taken_back_all cmp (live es) opened) n shelf) (let same : r + 1 - (length opened + 1) ≡ r - length opened = omega arith in same))

    pub begun_above : length opened ≤ r → IsAbove 1 (begun (stack_shown cmp es opened shelf r))
    begun_above within = by_shelf shelf
      where
        by_shelf : (shelf : Option (Aside K V)) → IsAbove 1 (begun (stack_shown cmp es opened shelf r))
        by_shelf None = tt
        by_shelf (Some s) = let up : r - length opened + 1 ≤ r + 1 = omega arith in up

  module _ (es fs : List (K × Slot V)) (front : List (List (K × Option V))) (log : List (K × Option V)) (shelf : Option (Aside K V)) (changes r : ℕ) where
    one_back : IsKept cmp es (front ++ log ∷ []) shelf changes r → r - 1 + 1 ≡ r
    one_back h = let within = h.sessions in let long = length_append front (log ∷ []) in omega arith

    pub undone_kept : IsKept cmp es (front ++ log ∷ []) shelf changes r → IsStrictlySortedBy cmp (keys_of fs) → Releases cmp es fs (λ q. named_in cmp q log) (λ q. 0) → IsKept cmp fs front shelf changes (r - 1)
    undone_kept h t gone =
        let long = length_append front (log ∷ []) in
        let within = h.sessions in
        record {
          exact = h.exact;
          ordered = t;
          tidy = gone.tidy h.tidy;
          counted = λ q.
              let before = h.counted q in
              let less : mentions_at cmp q fs + named_in cmp q log ≡ mentions_at cmp q es + 0 = gone.mentions q in
              let parts = named_append_all cmp q front (log ∷ []) in
              omega arith;
          few = let few = h.few in let parts = total_append front (log ∷ []) in omega arith;
          bound = h.bound;
          small = let small = h.small in omega arith;
          sessions = omega arith;
          room = subst (HasRoom shelf) (let same : r - length (front ++ log ∷ []) ≡ r - 1 - length front = omega arith in same) h.room;
        }

    pub undone_shown : IsKept cmp es (front ++ log ∷ []) shelf changes r → live fs ≡ taken_back cmp (live es) log → stack_shown cmp es (front ++ log ∷ []) shelf r ≡ with_top (live es) (begun (stack_shown cmp fs front shelf (r - 1)))
    undone_shown h back =
        split_shown es front log shelf r
        ∙ same_stack
        (ap (λ b. maps_under cmp b (below_of shelf ++ front) ++ b ∷ []) (sym back))
        refl
        (sym (one_back h))
        (ap (λ b. shelf_shown cmp (taken_back_all cmp b front) (r - (length front + 1)) shelf) (sym back)
        ∙ ap (λ n. shelf_shown cmp (taken_back_all cmp (live fs) front) n shelf) (let same : r - (length front + 1) ≡ r - 1 - length front = omega arith in same))

  module _ (es : List (K × Slot V)) (front : List (List (K × Option V))) (older newer : List (K × Option V)) (shelf : Option (Aside K V)) (changes r : ℕ) where
    pub squashed_kept : IsKept cmp es ((front ++ older ∷ []) ++ newer ∷ []) shelf changes r → IsKept cmp es (front ++ (older ++ newer) ∷ []) shelf changes (r - 1)
    squashed_kept h =
        let long = length_append (front ++ older ∷ []) (newer ∷ []) in
        let longer = length_append front (older ∷ []) in
        let short = length_append front ((older ++ newer) ∷ []) in
        let within = h.sessions in
        record {
          exact = h.exact;
          ordered = h.ordered;
          tidy = h.tidy;
          counted = λ q.
              let before = h.counted q in
              let a = named_append_all cmp q (front ++ older ∷ []) (newer ∷ []) in
              let b = named_append_all cmp q front (older ∷ []) in
              let c = named_append_all cmp q front ((older ++ newer) ∷ []) in
              let d = named_append cmp q older newer in
              omega arith;
          few =
              let few = h.few in
              let a = total_append (front ++ older ∷ []) (newer ∷ []) in
              let b = total_append front (older ∷ []) in
              let c = total_append front ((older ++ newer) ∷ []) in
              let d = length_append older newer in
              omega arith;
          bound = h.bound;
          small = let small = h.small in omega arith;
          sessions = omega arith;
          room = subst (HasRoom shelf) (let same : r - length ((front ++ older ∷ []) ++ newer ∷ []) ≡ r - 1 - length (front ++ (older ++ newer) ∷ []) = omega arith in same) h.room;
        }

    pub squashed_shown : IsKept cmp es ((front ++ older ∷ []) ++ newer ∷ []) shelf changes r → IsSquashed (stack_shown cmp es ((front ++ older ∷ []) ++ newer ∷ []) shelf r) (stack_shown cmp es (front ++ (older ++ newer) ∷ []) shelf (r - 1))
    squashed_shown h =
        let m = taken_back cmp (live es) newer in
        let b = taken_back cmp m older in
        let joined : taken_back cmp (live es) (older ++ newer) ≡ b = back_append cmp (live es) older newer in
        let split = split_shown es front (older ++ newer) shelf (r - 1) in
        let long = length_append front (older ∷ []) in
        let longer = length_append (front ++ older ∷ []) (newer ∷ []) in
        let within = h.sessions in (
          m,
          split_shown es (front ++ older ∷ []) newer shelf r
              ∙ same_stack
              (ap (λ ms. ms ++ m ∷ [])
              (ap (maps_under cmp m) (sym (append_assoc (below_of shelf) front (older ∷ [])))
              ∙ under_last cmp m (below_of shelf ++ front) older
              ∙ ap (λ b. maps_under cmp b (below_of shelf ++ front) ++ b ∷ []) (sym joined)
              ∙ sym (ap (λ s. s.under) split)))
              refl
              (let same : r ≡ r - 1 + 1 = omega arith in same)
              (ap (λ b. shelf_shown cmp b (r - (length (front ++ older ∷ []) + 1)) shelf) (back_append_all cmp m front (older ∷ []) ∙ ap (λ b. taken_back_all cmp b front) (sym joined))
              ∙ ap (λ n. shelf_shown cmp (taken_back_all cmp (taken_back cmp (live es) (older ++ newer)) front) n shelf) (let same : r - (length (front ++ older ∷ []) + 1) ≡ r - 1 - (length front + 1) = omega arith in same)
              ∙ sym (ap (λ s. s.shelf) split)),
        )

  -- the same, where the logs are known by an equation
  module _ (es fs : List (K × Slot V)) (opened : List (List (K × Option V))) (front : List (List (K × Option V))) (log : List (K × Option V)) (shelf : Option (Aside K V)) (changes r : ℕ) (is : opened ≡ front ++ log ∷ []) (h : IsKept cmp es opened shelf changes r) where
    pub undo_kept : IsStrictlySortedBy cmp (keys_of fs) → Releases cmp es fs (λ q. named_in cmp q log) (λ q. 0) → IsKept cmp fs front shelf changes (r - 1)
    undo_kept t gone = undone_kept es fs front log shelf changes r (subst (λ l. IsKept cmp es l shelf changes r) is h) t gone

    pub undo_shown : live fs ≡ taken_back cmp (live es) log → stack_shown cmp es opened shelf r ≡ with_top (live es) (begun (stack_shown cmp fs front shelf (r - 1)))
    undo_shown back = ap (λ l. stack_shown cmp es l shelf r) is ∙ undone_shown es fs front log shelf changes r (subst (λ l. IsKept cmp es l shelf changes r) is h) back

    pub undo_named : (q : K) → named_in cmp q log ≤ mentions_at cmp q es
    undo_named q =
        let all = open_named es opened changes r shelf h q in
        let split = ap (named_in_all cmp q) is in
        let parts = named_append_all cmp q front (log ∷ []) in
        omega arith

  pub some_open : (es : List (K × Slot V)) (opened : List (List (K × Option V))) (changes r : ℕ) (shelf : Option (Aside K V)) (n : ℕ) → IsKept cmp es opened shelf changes r → {stack : Stack (List (K × V))} → stack_shown cmp es opened shelf r ≡ stack → n ≤ length stack.under → IsAbove n stack → n ≤ length opened
  some_open es opened changes r shelf n h is some above = open_above es opened changes r shelf n h (subst (λ s. n ≤ length s.under) (sym is) some) (subst (IsAbove n) (sym is) above)

  module _ (es : List (K × Slot V)) (opened rest joined : List (List (K × Option V))) (newer : List (K × Option V)) (shelf : Option (Aside K V)) (changes r : ℕ) (is : opened ≡ rest ++ newer ∷ []) (adds : AddsLog newer rest joined) (h : IsKept cmp es opened shelf changes r) where
    both_last : opened ≡ (adds.0 ++ adds.1 ∷ []) ++ newer ∷ []
    both_last = is ∙ ap (λ l. l ++ newer ∷ []) adds.2

    whole : IsKept cmp es ((adds.0 ++ adds.1 ∷ []) ++ newer ∷ []) shelf changes r
    whole = subst (λ l. IsKept cmp es l shelf changes r) both_last h

    pub squash_kept : IsKept cmp es joined shelf changes (r - 1)
    squash_kept = subst (λ l. IsKept cmp es l shelf changes (r - 1)) (sym adds.3) (squashed_kept es adds.0 adds.1 newer shelf changes r whole)

    pub squash_shown : IsSquashed (stack_shown cmp es opened shelf r) (stack_shown cmp es joined shelf (r - 1))
    squash_shown =
        let s = squashed_shown es adds.0 adds.1 newer shelf changes r whole in
        (s.0, ap (λ l. stack_shown cmp es l shelf r) both_last ∙ s.1 ∙ ap (λ l. record { under = (stack_shown cmp es l shelf (r - 1)).under ++ s.0 ∷ []; top = live es; revision = r - 1 + 1; shelf = (stack_shown cmp es l shelf (r - 1)).shelf }) (sym adds.3))

  pub squash_room : (es : List (K × Slot V)) (opened rest : List (List (K × Option V))) (newer : List (K × Option V)) (shelf : Option (Aside K V)) (changes r : ℕ) → opened ≡ rest ++ newer ∷ [] → IsKept cmp es opened shelf changes r → total rest + length newer < 2 ^ 63
  squash_room es opened rest newer shelf changes r is h =
      let few = h.few in
      let bound = h.bound in
      let split = ap total is in
      let parts = total_append rest (newer ∷ []) in
      omega arith

  module _ (o : IsTotalOrder cmp) (es fs : List (K × Slot V)) (opened : List (List (K × Option V))) (k : K) (v : Option V) (shelf : Option (Aside K V)) (changes r : ℕ) (h : IsKept cmp es opened shelf changes r) (t : IsStrictlySortedBy cmp (keys_of fs)) where
    module _ (opened' : List (List (K × Option V))) (sets : Sets cmp k v (mentions_at cmp k es + 1) es fs) (adds : AddsEntry (k, value_at cmp k es) opened opened') where
      pub change_kept : changes + 1 < 2 ^ 63 → IsKept cmp fs opened' shelf (changes + 1) r
      change_kept more =
          subst (λ l. IsKept cmp fs l shelf (changes + 1) r) (sym adds.3)
          (logged_kept o h.exact es fs h.ordered t k v sets adds.0 adds.1 shelf changes r (subst (λ l. IsKept cmp es l shelf changes r) adds.2 h) more)

      pub change_shown : stack_shown cmp fs opened' shelf r ≡ with_top (changed cmp (live es) k v) (stack_shown cmp es opened shelf r)
      change_shown =
          ap (λ l. stack_shown cmp fs l shelf r) adds.3
          ∙ logged_shown o h.exact es fs h.ordered t k v sets adds.0 adds.1 shelf changes r
          ∙ ap (λ l. with_top (changed cmp (live es) k v) (stack_shown cmp es l shelf r)) (sym adds.2)

    module _ (sets : Sets cmp k v 0 es fs) (none : opened ≡ []) (above : IsAbove 1 (stack_shown cmp es opened shelf r)) where
      alone : shelf ≡ None
      alone = closed_off es opened changes r shelf none above

      plain : IsKept cmp es [] None changes r
      plain = subst (λ s. IsKept cmp es [] s changes r) alone (subst (λ l. IsKept cmp es l shelf changes r) none h)

      pub put_kept : IsKept cmp fs opened shelf changes r
      put_kept = subst (λ l. IsKept cmp fs l shelf changes r) (sym none) (subst (λ s. IsKept cmp fs [] s changes r) (sym alone) (set_kept o h.exact es fs h.ordered t k v sets changes r plain))

      pub put_shown : stack_shown cmp fs opened shelf r ≡ with_top (changed cmp (live es) k v) (stack_shown cmp es opened shelf r)
      put_shown =
          ap (λ l. stack_shown cmp fs l shelf r) none
          ∙ ap (λ s. stack_shown cmp fs [] s r) alone
          ∙ set_shown o h.exact es fs h.ordered t k v sets changes r
          ∙ ap (λ s. with_top (changed cmp (live es) k v) (stack_shown cmp es [] s r)) (sym alone)
          ∙ ap (λ l. with_top (changed cmp (live es) k v) (stack_shown cmp es l shelf r)) (sym none)

  module _ (es : List (K × Slot V)) (opened opened' : List (List (K × Option V))) (log : List (K × Option V)) (shelf : Option (Aside K V)) (changes r : ℕ) (none : log ≡ []) (more : opened' ≡ opened ++ log ∷ []) where
    begins : opened' ≡ opened ++ [] ∷ []
    begins = more ∙ ap (λ l. opened ++ l ∷ []) none

    pub begin_kept : IsKept cmp es opened shelf changes r → r + 1 < 2 ^ 63 → IsKept cmp es opened' shelf changes (r + 1)
    begin_kept h small = subst (λ l. IsKept cmp es l shelf changes (r + 1)) (sym begins) (begun_kept es opened shelf changes r h small)

    pub begin_shown : stack_shown cmp es opened' shelf (r + 1) ≡ begun (stack_shown cmp es opened shelf r)
    begin_shown = ap (λ l. stack_shown cmp es l shelf (r + 1)) begins ∙ begun_shown es opened shelf changes r
