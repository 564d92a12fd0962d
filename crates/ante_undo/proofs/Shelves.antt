-- What slots and logs stand for, and what holds of them, after the calls that close sessions or deal with the shelf.
use Rattle.std.proofs.Common.{◌≡◌, ℕ, zero, suc, ◌+◌, ◌-◌, ◌^◌, ◌<◌, ◌≤◌, List, [], ◌∷◌, ◌++◌, take, drop, length, get_or, Option, Some, None, IsSome, IfSome, is_some, true≢false, refl, sym, ap, subst, ◌∙◌, Ordering, append_assoc, append-nil, arith}
use Rattle.std.proofs.lemmas.List.{take_at, drop_at, length-drop}
use Rattle.std.specs.List.Sorted.{IsStrictlySortedBy}
use Rattle.std.specs.Map.{keys_of}
use Rattle.ante_undo.specs.declared.slots.Slot.{Slot}
use Rattle.ante_undo.specs.declared.logs.Aside.{Aside}
use Rattle.ante_undo.specs.Stack.{committed, newest, without_newest, maps_of, without_shelf, under_top, IsShelved, IsUnshelved, IsWithin, IsSound}
use Rattle.ante_undo.specs.Slots.{live, mentions_at}
use Rattle.ante_undo.specs.Logs.{total, named_in_all, taken_back, taken_back_all, maps_under, maps_over, AreMoved, Releases}
use Rattle.ante_undo.specs.Kept.{below_of, shelved_of, shelf_shown, stack_shown, IsKept}
use Rattle.ante_undo.proofs.Back.{total_append, length_append, named_append_all, under_append, under_last, length_under, length_over}
use Rattle.ante_undo.proofs.Ends.{get_end}
use Rattle.ante_undo.proofs.Held.{same_stack}

module _ {X : Type 0} where
  -- a list cut before its last n
  pub cut_front : (ms a b : List X) (n : ℕ) → ms ≡ a ++ b → length b ≡ n → without_newest n ms ≡ a
  cut_front ms a b n is long =
      ap (λ l. take (length l - n) l) is ∙ take_at a b (length (a ++ b) - n) (let parts = length_append a b in omega arith)

  pub cut_back : (ms a b : List X) (n : ℕ) → ms ≡ a ++ b → length b ≡ n → newest n ms ≡ b
  cut_back ms a b n is long =
      ap (λ l. drop (length l - n) l) is ∙ drop_at a b (length (a ++ b) - n) (let parts = length_append a b in omega arith)

  pub total_drop : (k : ℕ) (logs : List (List X)) → total (drop k logs) ≤ total logs
  total_drop zero logs = omega arith
  total_drop (suc k) [] = omega arith
  total_drop (suc k) (log ∷ logs) = let rest = total_drop k logs in omega arith

module _ {K V : Type 0} (cmp : K → K → Ordering) where
  drop_under : (k : ℕ) (m : List (K × V)) (logs : List (List (K × Option V))) → maps_under cmp m (drop k logs) ≡ drop k (maps_under cmp m logs)
  drop_under zero m logs = refl
  drop_under (suc k) m [] = refl
  drop_under (suc k) m (log ∷ logs) = drop_under k m logs

  module _ (es fs : List (K × Slot V)) (opened : List (List (K × Option V))) (changes r k : ℕ) (same : live fs ≡ live es) where
    pub committed_kept : IsKept cmp es opened None changes r → IsStrictlySortedBy cmp (keys_of fs) → Releases cmp es fs (λ q. named_in_all cmp q opened) (λ q. named_in_all cmp q (drop k opened)) → IsKept cmp fs (drop k opened) None changes r
    committed_kept h t gone = record {
      exact = h.exact;
      ordered = t;
      tidy = gone.tidy h.tidy;
      counted = λ q.
          let before = h.counted q in
          let less : mentions_at cmp q fs + named_in_all cmp q opened ≡ mentions_at cmp q es + named_in_all cmp q (drop k opened) = gone.mentions q in
          omega arith;
      few = let few = h.few in let less = total_drop k opened in omega arith;
      bound = h.bound;
      small = h.small;
      sessions = let within = h.sessions in let long = length-drop k opened in omega arith;
      room = tt;
    }

    pub committed_shown : (revision : ℕ) → k ≡ length opened - (r - revision) → stack_shown cmp fs (drop k opened) None r ≡ committed revision (stack_shown cmp es opened None r)
    committed_shown revision is =
        same_stack
        (drop_under k (live fs) opened ∙ ap (λ m. drop k (maps_under cmp m opened)) same ∙ ap (λ n. drop n (maps_under cmp (live es) opened)) (is ∙ ap (λ n. n - (r - revision)) (sym (length_under cmp (live es) opened))))
        same
        refl
        refl

  module _ (es fs : List (K × Slot V)) (opened left shelved : List (List (K × Option V))) (changes r revision count : ℕ) (h : IsKept cmp es opened None changes r) (moved : AreMoved cmp es opened [] fs left shelved) (cut : length left + count ≡ length opened) (is : count ≡ r - revision) (to : revision ≤ r) where
    pub shelved_kept : IsStrictlySortedBy cmp (keys_of fs) → IsKept cmp fs [] (Some (record { below = left; shelved = shelved })) changes revision
    shelved_kept t =
        let lengths = moved.lengths in
        record {
          exact = h.exact;
          ordered = t;
          tidy = moved.stays.tidy h.tidy;
          counted = λ q.
              let before = h.counted q in
              let same = moved.stays.mentions q in
              let parts = moved.named q in
              omega arith;
          few = let few = h.few in let parts = moved.totals in omega arith;
          bound = h.bound;
          small = let small = h.small in omega arith;
          sessions = let within = h.sessions in omega arith;
          room = let small = h.small in let there : revision - 0 + length shelved < 2 ^ 63 = omega arith in there;
        }

    all_maps : maps_of (stack_shown cmp es opened None r) ≡ (maps_under cmp (live fs) left ++ live fs ∷ []) ++ maps_over cmp (live fs) shelved
    all_maps = sym moved.forth ∙ sym (append_assoc (maps_under cmp (live fs) left) (live fs ∷ []) (maps_over cmp (live fs) shelved))

    as_many : length (maps_over cmp (live fs) shelved) ≡ r - revision
    as_many = let long = length_over cmp (live fs) shelved in let lengths = moved.lengths in omega arith

    pub shelved_shown : IsShelved revision (stack_shown cmp es opened None r) (stack_shown cmp fs [] (Some (record { below = left; shelved = shelved })) revision)
    shelved_shown = record {
      maps = ap (λ l. maps_under cmp (live fs) l ++ live fs ∷ []) (append-nil left)
          ∙ sym (cut_front (maps_of (stack_shown cmp es opened None r)) (maps_under cmp (live fs) left ++ live fs ∷ []) (maps_over cmp (live fs) shelved) (r - revision) all_maps as_many);
      revision = refl;
      shelf =
          let at : revision - 0 ≡ revision = omega arith in
          λ i. Some (record {
            revision = at i;
            maps = sym (cut_back (maps_of (stack_shown cmp es opened None r)) (maps_under cmp (live fs) left ++ live fs ∷ []) (maps_over cmp (live fs) shelved) (r - revision) all_maps as_many) i;
          });
    }

  pub record HeadUnder (m : List (K × V)) (logs : List (List (K × Option V))) : Type 0 where
    pub rest : List (List (K × V))
    pub is : maps_under cmp m logs ++ m ∷ [] ≡ taken_back_all cmp m logs ∷ rest
    pub long : length rest ≡ length logs

  head_under : (m : List (K × V)) (logs : List (List (K × Option V))) → HeadUnder m logs
  head_under m [] = record { rest = []; is = refl; long = refl }
  head_under m (log ∷ logs) = record {
    rest = maps_under cmp m logs ++ m ∷ [];
    is = refl;
    long = let long = length_under cmp m logs in let parts = length_append (maps_under cmp m logs) (m ∷ []) in omega arith;
  }

  module _ (es es' fs : List (K × Slot V)) (opened below shelved left opened' : List (List (K × Option V))) (changes r : ℕ) (h : IsKept cmp es opened (Some (record { below = below; shelved = shelved })) changes r) (back : live es' ≡ taken_back_all cmp (live es) opened) (moved : AreMoved cmp es' shelved below fs left opened') (none : left ≡ []) where
    pub unshelved_kept : Releases cmp es es' (λ q. named_in_all cmp q opened) (λ q. 0) → IsStrictlySortedBy cmp (keys_of fs) → IsKept cmp fs opened' None changes (r - length opened + length shelved)
    unshelved_kept gone t =
        let lengths = moved.lengths in
        let empty = ap length none in
        let within = h.sessions in
        record {
          exact = h.exact;
          ordered = t;
          tidy = λ q. moved.stays.tidy (gone.tidy h.tidy) q;
          counted = λ q.
              let before = h.counted q in
              let less : mentions_at cmp q es' + named_in_all cmp q opened ≡ mentions_at cmp q es + 0 = gone.mentions q in
              let same = moved.stays.mentions q in
              let parts = moved.named q in
              let nothing = ap (named_in_all cmp q) none in
              omega arith;
          few = let few = h.few in let parts = moved.totals in let nothing = ap total none in omega arith;
          bound = h.bound;
          small = h.room;
          sessions = omega arith;
          room = tt;
        }

    pub unshelved_shown : IsUnshelved (stack_shown cmp es opened (Some (record { below = below; shelved = shelved })) r) (stack_shown cmp fs opened' None (r - length opened + length shelved))
    unshelved_shown =
        let base = taken_back_all cmp (live es) opened in
        let head = head_under (live es) opened in
        let within = h.sessions in
        let since : r - (r - length opened) ≡ length opened = omega arith in
        let before : maps_of (stack_shown cmp es opened (Some (record { below = below; shelved = shelved })) r) ≡ (maps_under cmp base below ++ base ∷ []) ++ head.rest =
        ap (λ ms. ms ++ live es ∷ []) (under_append cmp (live es) below opened)
        ∙ append_assoc (maps_under cmp base below) (maps_under cmp (live es) opened) (live es ∷ [])
        ∙ ap (λ ms. maps_under cmp base below ++ ms) head.is
        ∙ sym (append_assoc (maps_under cmp base below) (base ∷ []) head.rest) in
        record {
          maps = ap (λ l. maps_under cmp (live fs) opened' ++ live fs ∷ maps_over cmp (live fs) l) (sym none)
              ∙ moved.back
              ∙ ap (λ m. maps_under cmp m below ++ m ∷ maps_over cmp m shelved) back
              ∙ sym (append_assoc (maps_under cmp base below) (base ∷ []) (maps_over cmp base shelved))
              ∙ ap (λ ms. ms ++ maps_over cmp base shelved)
              (sym (ap (λ n. without_newest n (maps_of (stack_shown cmp es opened (Some (record { below = below; shelved = shelved })) r))) since
              ∙ cut_front (maps_of (stack_shown cmp es opened (Some (record { below = below; shelved = shelved })) r)) (maps_under cmp base below ++ base ∷ []) head.rest (length opened) before head.long));
          revision = ap (λ n. r - length opened + n) (sym (length_over cmp base shelved));
          shelf = refl;
        }

  module _ (es fs : List (K × Slot V)) (opened below shelved left opened' : List (List (K × Option V))) (changes r : ℕ) (h : IsKept cmp es opened (Some (record { below = below; shelved = shelved })) changes r) (same : live fs ≡ live es) (joined : opened' ≡ below ++ opened) where
    pub dropped_kept : IsStrictlySortedBy cmp (keys_of fs) → Releases cmp es fs (λ q. named_in_all cmp q shelved) (λ q. named_in_all cmp q left) → left ≡ [] → IsKept cmp fs opened' None changes r
    dropped_kept t gone none =
        let long = ap length joined in
        let parts = length_append below opened in
        let within = h.sessions in
        record {
          exact = h.exact;
          ordered = t;
          tidy = gone.tidy h.tidy;
          counted = λ q.
              let before = h.counted q in
              let less : mentions_at cmp q fs + named_in_all cmp q shelved ≡ mentions_at cmp q es + named_in_all cmp q left = gone.mentions q in
              let nothing = ap (named_in_all cmp q) none in
              let both = ap (named_in_all cmp q) joined in
              let split = named_append_all cmp q below opened in
              omega arith;
          few = let few = h.few in let both = ap total joined in let split = total_append below opened in omega arith;
          bound = h.bound;
          small = h.small;
          sessions = omega arith;
          room = tt;
        }

    pub dropped_shown : stack_shown cmp fs opened' None r ≡ without_shelf (stack_shown cmp es opened (Some (record { below = below; shelved = shelved })) r)
    dropped_shown = same_stack (ap (maps_under cmp (live fs)) joined ∙ ap (λ m. maps_under cmp m (below ++ opened)) same) same refl refl

  pub sound : (es : List (K × Slot V)) (opened : List (List (K × Option V))) (shelf : Option (Aside K V)) (changes r : ℕ) → IsKept cmp es opened shelf changes r → IsSound (stack_shown cmp es opened shelf r)
  sound es opened shelf changes r h = record { small = h.small; sessions = let long = all_long in let within = h.sessions in omega arith; shelf = by_shelf shelf h }
    where
      all_long : length (maps_under cmp (live es) (below_of shelf ++ opened)) ≡ length (below_of shelf) + length opened
      all_long = length_under cmp (live es) (below_of shelf ++ opened) ∙ length_append (below_of shelf) opened

      by_shelf : (shelf : Option (Aside K V)) → IsKept cmp es opened shelf changes r → IfSome (shelf_shown cmp (taken_back_all cmp (live es) opened) (r - length opened) shelf) (IsWithin (stack_shown cmp es opened shelf r))
      by_shelf None h = tt
      by_shelf (Some a) h =
          let within = h.sessions in
          let many = length_under cmp (live es) (a.below ++ opened) in
          let parts = length_append a.below opened in
          let over = length_over cmp (taken_back_all cmp (live es) opened) a.shelved in
          let room : r - length opened + length a.shelved < 2 ^ 63 = h.room in
          record { from = omega arith; since = omega arith; small = omega arith }

  pub counts : (es : List (K × Slot V)) (opened : List (List (K × Option V))) (shelf : Option (Aside K V)) → length (maps_under cmp (live es) (below_of shelf ++ opened)) ≡ length (below_of shelf) + length opened
  counts es opened shelf = length_under cmp (live es) (below_of shelf ++ opened) ∙ length_append (below_of shelf) opened

  -- taking the newest log back leads to the map under the top
  pub newest_under : (es : List (K × Slot V)) (opened front : List (List (K × Option V))) (log : List (K × Option V)) (shelf : Option (Aside K V)) (r : ℕ) → below_of shelf ++ opened ≡ front ++ log ∷ [] → taken_back cmp (live es) log ≡ under_top (stack_shown cmp es opened shelf r)
  newest_under es opened front log shelf r is =
      sym (ap (λ l. get_or l (length l - 1) (live es)) (ap (maps_under cmp (live es)) is ∙ under_last cmp (live es) front log) ∙ get_end (maps_under cmp (taken_back cmp (live es) log) front) (taken_back cmp (live es) log) (live es))

  -- the same, where the parts are known by equations
  module _ (es fs : List (K × Slot V)) (opened start left shelved : List (List (K × Option V))) (shelf : Option (Aside K V)) (changes r revision count : ℕ) (h : IsKept cmp es opened shelf changes r) (alone : shelf ≡ None) (moved : AreMoved cmp es opened start fs left shelved) (first : start ≡ []) (cut : length left + count ≡ length opened) (is : count ≡ r - revision) (to : revision ≤ r) (opened' below : List (List (K × Option V))) (none : opened' ≡ []) (under : below ≡ left) where
    plain : IsKept cmp es opened None changes r
    plain = subst (λ a. IsKept cmp es opened a changes r) alone h

    begins : AreMoved cmp es opened [] fs left shelved
    begins = subst (λ l. AreMoved cmp es opened l fs left shelved) first moved

    pub shelve_kept : IsStrictlySortedBy cmp (keys_of fs) → IsKept cmp fs opened' (Some (record { below = below; shelved = shelved })) changes revision
    shelve_kept t =
        subst (λ l. IsKept cmp fs l (Some (record { below = below; shelved = shelved })) changes revision) (sym none)
        (subst (λ b. IsKept cmp fs [] (Some (record { below = b; shelved = shelved })) changes revision) (sym under) (shelved_kept es fs opened left shelved changes r revision count plain begins cut is to t))

    pub shelve_shown : IsShelved revision (stack_shown cmp es opened shelf r) (stack_shown cmp fs opened' (Some (record { below = below; shelved = shelved })) revision)
    shelve_shown =
        subst (λ a. IsShelved revision (stack_shown cmp es opened a r) (stack_shown cmp fs opened' (Some (record { below = below; shelved = shelved })) revision)) (sym alone)
        (subst (λ l. IsShelved revision (stack_shown cmp es opened None r) (stack_shown cmp fs l (Some (record { below = below; shelved = shelved })) revision)) (sym none)
        (subst (λ b. IsShelved revision (stack_shown cmp es opened None r) (stack_shown cmp fs [] (Some (record { below = b; shelved = shelved })) revision)) (sym under)
        (shelved_shown es fs opened left shelved changes r revision count plain begins cut is to)))

  pub alone_named : (es : List (K × Slot V)) (opened start : List (List (K × Option V))) (shelf : Option (Aside K V)) (changes r : ℕ) → IsKept cmp es opened shelf changes r → start ≡ [] → (q : K) → named_in_all cmp q opened + named_in_all cmp q start ≤ mentions_at cmp q es
  alone_named es opened start shelf changes r h none q =
      let counted = h.counted q in
      let nothing = ap (named_in_all cmp q) none in
      omega arith

  module _ (es fs : List (K × Slot V)) (opened opened' : List (List (K × Option V))) (shelf : Option (Aside K V)) (changes r k : ℕ) (h : IsKept cmp es opened shelf changes r) (alone : shelf ≡ None) (closed : opened' ≡ drop k opened) (same : live fs ≡ live es) where
    sole : IsKept cmp es opened None changes r
    sole = subst (λ a. IsKept cmp es opened a changes r) alone h

    pub commit_kept : IsStrictlySortedBy cmp (keys_of fs) → Releases cmp es fs (λ q. named_in_all cmp q opened) (λ q. named_in_all cmp q opened') → IsKept cmp fs opened' shelf changes r
    commit_kept t gone =
        subst (λ a. IsKept cmp fs opened' a changes r) (sym alone)
        (subst (λ l. IsKept cmp fs l None changes r) (sym closed) (committed_kept es fs opened changes r k same sole t (subst (λ l. Releases cmp es fs (λ q. named_in_all cmp q opened) (λ q. named_in_all cmp q l)) closed gone)))

    pub commit_shown : (revision : ℕ) → k ≡ length opened - (r - revision) → stack_shown cmp fs opened' shelf r ≡ committed revision (stack_shown cmp es opened shelf r)
    commit_shown revision is =
        ap (λ l. stack_shown cmp fs l shelf r) closed
        ∙ ap (λ a. stack_shown cmp fs (drop k opened) a r) alone
        ∙ committed_shown es fs opened changes r k same revision is
        ∙ ap (λ a. committed revision (stack_shown cmp es opened a r)) (sym alone)

  -- a commit that closes nothing
  pub commit_nothing : (es : List (K × Slot V)) (opened : List (List (K × Option V))) (shelf : Option (Aside K V)) (r revision : ℕ) → shelf ≡ None → length opened ≤ r - revision → stack_shown cmp es opened shelf r ≡ committed revision (stack_shown cmp es opened shelf r)
  commit_nothing es opened shelf r revision alone few =
      ap (λ a. stack_shown cmp es opened a r) alone
      ∙ same_stack (ap (λ n. drop n (maps_under cmp (live es) opened)) (let long = length_under cmp (live es) opened in let none : 0 ≡ length (maps_under cmp (live es) opened) - (r - revision) = omega arith in none)) refl refl refl
      ∙ ap (λ a. committed revision (stack_shown cmp es opened a r)) (sym alone)

  module _ (es fs : List (K × Slot V)) (opened opened' left : List (List (K × Option V))) (shelf : Option (Aside K V)) (aside : Aside K V) (changes r : ℕ) (h : IsKept cmp es opened shelf changes r) (out : shelf ≡ Some aside) where
    held_out : IsKept cmp es opened (Some (record { below = aside.below; shelved = aside.shelved })) changes r
    held_out = subst (λ a. IsKept cmp es opened a changes r) out h

    module _ (same : live fs ≡ live es) (joined : opened' ≡ aside.below ++ opened) where
      pub drop_kept : IsStrictlySortedBy cmp (keys_of fs) → Releases cmp es fs (λ q. named_in_all cmp q aside.shelved) (λ q. named_in_all cmp q left) → left ≡ [] → IsKept cmp fs opened' None changes r
      drop_kept t gone none = dropped_kept es fs opened aside.below aside.shelved left opened' changes r held_out same joined t gone none

      pub drop_shown : stack_shown cmp fs opened' None r ≡ without_shelf (stack_shown cmp es opened shelf r)
      drop_shown = dropped_shown es fs opened aside.below aside.shelved left opened' changes r held_out same joined ∙ ap (λ a. without_shelf (stack_shown cmp es opened a r)) (sym out)

    module _ (es' : List (K × Slot V)) (below : List (List (K × Option V))) (under : below ≡ aside.below) (back : live es' ≡ taken_back_all cmp (live es) opened) (moved : AreMoved cmp es' aside.shelved below fs left opened') (none : left ≡ []) where
      onto : AreMoved cmp es' aside.shelved aside.below fs left opened'
      onto = subst (λ b. AreMoved cmp es' aside.shelved b fs left opened') under moved

      pub unshelve_kept : Releases cmp es es' (λ q. named_in_all cmp q opened) (λ q. 0) → IsStrictlySortedBy cmp (keys_of fs) → IsKept cmp fs opened' None changes (r - length opened + length aside.shelved)
      unshelve_kept gone t = unshelved_kept es es' fs opened aside.below aside.shelved left opened' changes r held_out back onto none gone t

      pub unshelve_shown : IsUnshelved (stack_shown cmp es opened shelf r) (stack_shown cmp fs opened' None (r - length opened + length aside.shelved))
      unshelve_shown = subst (λ a. IsUnshelved (stack_shown cmp es opened a r) (stack_shown cmp fs opened' None (r - length opened + length aside.shelved))) (sym out) (unshelved_shown es es' fs opened aside.below aside.shelved left opened' changes r held_out back onto none)

  pub has_shelf : (es : List (K × Slot V)) (opened : List (List (K × Option V))) (shelf : Option (Aside K V)) (r : ℕ) → shelf ≡ None → IsSome (shelf_shown cmp (taken_back_all cmp (live es) opened) (r - length opened) shelf) → ⊥
  has_shelf es opened shelf r none some = absurd (true≢false (sym some ∙ ap (λ a. is_some (shelf_shown cmp (taken_back_all cmp (live es) opened) (r - length opened) a)) none))

  pub shelved_named : (es : List (K × Slot V)) (opened : List (List (K × Option V))) (shelf : Option (Aside K V)) (aside : Aside K V) (changes r : ℕ) → IsKept cmp es opened shelf changes r → shelf ≡ Some aside → (q : K) → named_in_all cmp q aside.shelved + named_in_all cmp q aside.below + named_in_all cmp q opened ≤ mentions_at cmp q es
  shelved_named es opened shelf aside changes r h out q =
      let counted = h.counted q in
      let shelved = ap (λ a. named_in_all cmp q (shelved_of a)) out in
      let below = ap (λ a. named_in_all cmp q (below_of a)) out in
      omega arith

  -- as many sessions are open and on the shelf as revisions were begun
  pub shelved_few : (es : List (K × Slot V)) (opened : List (List (K × Option V))) (shelf : Option (Aside K V)) (aside : Aside K V) (changes r : ℕ) → IsKept cmp es opened shelf changes r → shelf ≡ Some aside → length aside.below + length opened ≤ r
  shelved_few es opened shelf aside changes r h out = let within = h.sessions in let below = ap (λ a. length (below_of a)) out in omega arith

  pub shelved_room : (es : List (K × Slot V)) (opened : List (List (K × Option V))) (shelf : Option (Aside K V)) (aside : Aside K V) (changes r : ℕ) → IsKept cmp es opened shelf changes r → shelf ≡ Some aside → r - length opened + length aside.shelved < 2 ^ 63
  shelved_room es opened shelf aside changes r h out = (subst (λ a. IsKept cmp es opened a changes r) out h).room
