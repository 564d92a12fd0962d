-- Looking for an entry of one holder that passes a test: from where the holder's keys begin to where they end.
use Rattle.std.proofs.Common.{◌≡◌, ℕ, suc, ◌<◌, ◌≤◌, ◌||◌, Bool, true, false, true≢false, cond, T, List, [], ◌∷◌, length, Option, Some, None, refl, sym, ap, subst, ◌∙◌, le_refl, arith, Ordering, Less, Equal, Greater}
use Rattle.std.specs.Ordering.{is_gt, is_ge, ordering_reverse}
use Rattle.std.specs.List.{list_any}
use Rattle.std.specs.Cmp.{IsTotalOrder}
use Rattle.std.specs.FinMap.Entries.{is_sorted, below_all}
use Rattle.std.proofs.lemmas.Cmp.{upto}
use Rattle.ante_undo.specs.Entries.{entry_from, first_entry}
use Rattle.ante_undo.proofs.Entries.{first, second, less}
use Rattle.ante_sessions.specs.Walk.{past}
use Rattle.ante_sessions.proofs.Past.{past_next}

turned : (r : Ordering) → is_ge r ≡ true → is_gt (ordering_reverse r) ≡ false
turned Less h = absurd (true≢false (sym h))
turned Equal h = refl
turned Greater h = refl

module _ {K V : Type 0} (cmp : K → K → Ordering) where
  -- whether an entry passes the test, from this one on
  abbrev pub any_from : (K × V → Bool) → List (K × V) → Option (K × V) → Bool
  any_from p m None = false
  any_from p m (Some e) = p e || list_any p (past cmp (Some e.0) m)

  -- how many entries there are from this one on
  abbrev pub left_from : List (K × V) → Option (K × V) → ℕ
  left_from m None = 0
  left_from m (Some e) = suc (length (past cmp (Some e.0) m))

  found_from : (key : K) (m : List (K × V)) (e : K × V) → entry_from cmp key m ≡ Some e → is_ge (cmp e.0 key) ≡ true
  found_from key [] e h = absurd (true≢false cc)
  found_from key (x ∷ xs) e h =
      elim (is_ge (cmp x.0 key)) as (λ b. is_ge (cmp x.0 key) ≡ b → cond b (Some x) (entry_from cmp key xs) ≡ Some e → is_ge (cmp e.0 key) ≡ true) [
        | true ↦ λ b h. let same : x ≡ e = cc in subst (λ e. is_ge (cmp e.0 key) ≡ true) same b
        | false ↦ λ b h. found_from key xs e h
      ] refl h

  module _ (o : IsTotalOrder cmp) (p : K × V → Bool) where
    next_any : (at : Option K) (m : List (K × V)) (next : Option (K × V)) → T (is_sorted cmp m) → next ≡ first_entry (past cmp at m) → any_from p m next ≡ list_any p (past cmp at m)
    next_any at m next sorted h = ap (any_from p m) h ∙ from (past cmp at m) refl
      where
        from : (es : List (K × V)) → past cmp at m ≡ es → any_from p m (first_entry es) ≡ list_any p es
        from [] is = refl
        from (e ∷ es) is = ap (λ rest. p e || list_any p rest) (past_next cmp o at m e es sorted is)

    next_left : (at : Option K) (m : List (K × V)) (next : Option (K × V)) → T (is_sorted cmp m) → next ≡ first_entry (past cmp at m) → left_from m next ≤ length (past cmp at m)
    next_left at m next sorted h = subst (λ n. left_from m n ≤ length (past cmp at m)) (sym h) (from (past cmp at m) refl)
      where
        from : (es : List (K × V)) → past cmp at m ≡ es → left_from m (first_entry es) ≤ length es
        from [] is = le_refl 0
        from (e ∷ es) is = let rest = ap length (past_next cmp o at m e es sorted is) in omega (arith, rest)

    pub step_any : (m : List (K × V)) (now next : Option (K × V)) (e : K × V) → T (is_sorted cmp m) → now ≡ Some e → p e ≡ false → next ≡ first_entry (past cmp (Some e.0) m) → any_from p m next ≡ any_from p m now
    step_any m now next e sorted is fails h =
        next_any (Some e.0) m next sorted h
        ∙ sym (ap (λ b. b || list_any p (past cmp (Some e.0) m)) fails)
        ∙ sym (ap (any_from p m) is)

    pub step_left : (m : List (K × V)) (now next : Option (K × V)) (e : K × V) → T (is_sorted cmp m) → now ≡ Some e → next ≡ first_entry (past cmp (Some e.0) m) → left_from m next < left_from m now
    step_left m now next e sorted is h = subst (λ n. left_from m next < left_from m n) (sym is) (let rest = next_left (Some e.0) m next sorted h in omega (arith, rest))

    pub found_here : (m : List (K × V)) (now : Option (K × V)) (e : K × V) → now ≡ Some e → p e ≡ true → any_from p m now ≡ true
    found_here m now e is passes = ap (any_from p m) is ∙ ap (λ b. b || list_any p (past cmp (Some e.0) m)) passes

    -- an entry below the start isn't looked at
    passed : (start : K) (x : K × V) (xs : List (K × V)) (next : Option (K × V)) → cmp x.0 start ≡ Less → entry_from cmp start xs ≡ next → any_from p (x ∷ xs) next ≡ any_from p xs next
    passed start x xs None below h = refl
    passed start x xs (Some e) below h =
        ap (λ b. p e || list_any p (cond b (x ∷ xs) (past cmp (Some e.0) xs)))
        (upto o x.0 start e.0 (ap is_gt below) (ap is_gt (o.antisymm start e.0) ∙ turned (cmp e.0 start) (found_from start xs e h)))

    -- where no entry below the start passes the test, it is enough to look from there on
    pub start_any : (start : K) → ((e : K × V) → cmp e.0 start ≡ Less → p e ≡ false) → (m : List (K × V)) → T (is_sorted cmp m) → any_from p m (entry_from cmp start m) ≡ list_any p m
    start_any start fails [] sorted = refl
    start_any start fails (x ∷ xs) sorted = from (cmp x.0 start) refl (start_any start fails xs (second _ _ sorted))
      where
        head : any_from p (x ∷ xs) (Some x) ≡ list_any p (x ∷ xs)
        head = ap (λ rest. p x || list_any p rest) (past_next cmp o None (x ∷ xs) x xs sorted refl)

        from : (r : Ordering) → cmp x.0 start ≡ r → any_from p xs (entry_from cmp start xs) ≡ list_any p xs → any_from p (x ∷ xs) (cond (is_ge r) (Some x) (entry_from cmp start xs)) ≡ list_any p (x ∷ xs)
        from Less is rest = passed start x xs (entry_from cmp start xs) is refl ∙ rest ∙ sym (ap (λ b. b || list_any p xs) (fails x is))
        from Equal is rest = head
        from Greater is rest = head

    none_above : (key x : K) (es : List (K × V)) → ((e : K × V) → cmp key e.0 ≡ Less → p e ≡ false) → cmp key x ≡ Less → T (below_all cmp x es) → list_any p es ≡ false
    none_above key x [] fails above h = refl
    none_above key x (e ∷ es) fails above h =
        ap (λ b. b || list_any p es) (fails e (o.trans key x e.0 above (less (cmp x e.0) (first _ _ h))))
        ∙ none_above key x es fails above (second _ _ h)

    -- where no entry past a key passes the test, none of those to come does
    none_past : (key : K) (m : List (K × V)) → ((e : K × V) → cmp key e.0 ≡ Less → p e ≡ false) → T (is_sorted cmp m) → list_any p (past cmp (Some key) m) ≡ false
    none_past key [] fails sorted = refl
    none_past key (x ∷ xs) fails sorted = from (cmp x.0 key) refl (none_past key xs fails (second _ _ sorted))
      where
        from : (r : Ordering) → cmp x.0 key ≡ r → list_any p (past cmp (Some key) xs) ≡ false → list_any p (cond (is_gt r) (x ∷ xs) (past cmp (Some key) xs)) ≡ false
        from Less is rest = rest
        from Equal is rest = rest
        from Greater is rest =
            let above : cmp key x.0 ≡ Less = o.antisymm key x.0 ∙ ap ordering_reverse is in
            ap (λ b. b || list_any p xs) (fails x above) ∙ none_above key x.0 xs fails above (first _ _ sorted)

    pub none_left : (m : List (K × V)) (now : Option (K × V)) (e : K × V) → ((x : K × V) → cmp e.0 x.0 ≡ Less → p x ≡ false) → T (is_sorted cmp m) → now ≡ Some e → p e ≡ false → any_from p m now ≡ false
    none_left m now e fails sorted is here =
        ap (any_from p m) is ∙ ap (λ b. b || list_any p (past cmp (Some e.0) m)) here ∙ none_past e.0 m fails sorted
