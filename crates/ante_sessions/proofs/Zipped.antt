-- What each session call makes of two stacks side by side.
use Rattle.std.proofs.Common.{◌≡◌, ℕ, zero, suc, ◌+◌, ◌-◌, ◌^◌, ◌≤◌, ◌<◌, List, [], ◌∷◌, ◌++◌, take, drop, length, Option, Some, None, IfSome, refl, sym, ap, subst, ◌∙◌, arith}
use Rattle.std.proofs.lemmas.List.{length-append}
use Rattle.std.specs.List.{zip}
use Rattle.ante_undo.specs.Stack.{Stack, Shelf, newest, without_newest, maps_of, with_top, with_session, begun, committed, IsSquashed, IsShelved, IsBroughtBack, IsUnshelved, IsSound, IsWithin}
use Rattle.ante_sessions.specs.Zipped.{zip_shelves, zip_stacks, AlikeShelves, Alike}

module _ {X Y : Type 0} where
  zip_length : (xs : List X) (ys : List Y) → length xs ≡ length ys → length (zip xs ys) ≡ length xs
  zip_length [] ys h = refl
  zip_length (x ∷ xs) [] h = absurd (omega arith)
  zip_length (x ∷ xs) (y ∷ ys) h = ap suc (zip_length xs ys (omega arith))

  zip_append : (xs : List X) (ys : List Y) (us : List X) (vs : List Y) → length xs ≡ length ys → zip (xs ++ us) (ys ++ vs) ≡ zip xs ys ++ zip us vs
  zip_append [] [] us vs h = refl
  zip_append [] (y ∷ ys) us vs h = absurd (omega arith)
  zip_append (x ∷ xs) [] us vs h = absurd (omega arith)
  zip_append (x ∷ xs) (y ∷ ys) us vs h = ap (λ rest. (x, y) ∷ rest) (zip_append xs ys us vs (omega arith))

  zip_take : (n : ℕ) (xs : List X) (ys : List Y) → zip (take n xs) (take n ys) ≡ take n (zip xs ys)
  zip_take zero xs ys = refl
  zip_take (suc n) [] ys = refl
  zip_take (suc n) (x ∷ xs) [] = refl
  zip_take (suc n) (x ∷ xs) (y ∷ ys) = ap (λ rest. (x, y) ∷ rest) (zip_take n xs ys)

  zip_drop : (n : ℕ) (xs : List X) (ys : List Y) → length xs ≡ length ys → zip (drop n xs) (drop n ys) ≡ drop n (zip xs ys)
  zip_drop zero xs ys h = refl
  zip_drop (suc n) [] ys h = refl
  zip_drop (suc n) (x ∷ xs) [] h = absurd (omega arith)
  zip_drop (suc n) (x ∷ xs) (y ∷ ys) h = zip_drop n xs ys (omega arith)

  take_alike : (n : ℕ) (xs : List X) (ys : List Y) → length xs ≡ length ys → length (take n xs) ≡ length (take n ys)
  take_alike zero xs ys h = refl
  take_alike (suc n) [] [] h = refl
  take_alike (suc n) [] (y ∷ ys) h = absurd (omega arith)
  take_alike (suc n) (x ∷ xs) [] h = absurd (omega arith)
  take_alike (suc n) (x ∷ xs) (y ∷ ys) h = ap suc (take_alike n xs ys (omega arith))

  zip_newest : (n k : ℕ) (xs : List X) (ys : List Y) → n ≡ k → length xs ≡ length ys → zip (newest n xs) (newest k ys) ≡ newest n (zip xs ys)
  zip_newest n k xs ys same h =
      ap (λ i. zip (drop (length xs - n) xs) (drop i ys)) (omega arith)
      ∙ zip_drop (length xs - n) xs ys h
      ∙ ap (λ i. drop (i - n) (zip xs ys)) (sym (zip_length xs ys h))

  zip_without : (n k : ℕ) (xs : List X) (ys : List Y) → n ≡ k → length xs ≡ length ys → zip (without_newest n xs) (without_newest k ys) ≡ without_newest n (zip xs ys)
  zip_without n k xs ys same h =
      ap (λ i. zip (take (length xs - n) xs) (take i ys)) (omega arith)
      ∙ zip_take (length xs - n) xs ys
      ∙ ap (λ i. take (i - n) (zip xs ys)) (sym (zip_length xs ys h))

  without_alike : (n k : ℕ) (xs : List X) (ys : List Y) → n ≡ k → length xs ≡ length ys → length (without_newest n xs) ≡ length (without_newest k ys)
  without_alike n k xs ys same h = take_alike (length xs - n) xs ys h ∙ ap (λ i. length (take i ys)) (omega arith)

  zip_maps : (a : Stack X) (b : Stack Y) → length a.under ≡ length b.under → zip (maps_of a) (maps_of b) ≡ maps_of (zip_stacks a b)
  zip_maps a b h = zip_append a.under b.under (a.top ∷ []) (b.top ∷ []) h

  maps_alike : (a : Stack X) (b : Stack Y) → length a.under ≡ length b.under → length (maps_of a) ≡ length (maps_of b)
  maps_alike a b h = omega (arith, length-append a.under (a.top ∷ []), length-append b.under (b.top ∷ []))

  alike_maps : (a : Stack X) (b : Stack Y) → length (maps_of a) ≡ length (maps_of b) → length a.under ≡ length b.under
  alike_maps a b h = omega (arith, length-append a.under (a.top ∷ []), length-append b.under (b.top ∷ []))

  pub zip_begun : (a a2 : Stack X) (b b2 : Stack Y) → Alike a b → a2 ≡ begun a → b2 ≡ begun b → zip_stacks a2 b2 ≡ begun (zip_stacks a b)
  zip_begun a a2 b b2 h e e2 =
      ap (λ s. zip_stacks s b2) e ∙ ap (zip_stacks (begun a)) e2
      ∙ ap (λ under. record { under = under; top = (a.top, b.top); revision = a.revision + 1; shelf = zip_shelves a.shelf b.shelf }) (zip_maps a b h.under)

  ended_alike : (a a2 : Stack X) (b b2 : Stack Y) (m : X) (n : Y) → length a.under ≡ length b.under → a.under ≡ a2.under ++ m ∷ [] → b.under ≡ b2.under ++ n ∷ [] → length a2.under ≡ length b2.under
  ended_alike a a2 b b2 m n h e e2 = omega (arith, ap length e, ap length e2, length-append a2.under (m ∷ []), length-append b2.under (n ∷ []))

  pub zip_undone : (a a2 : Stack X) (b b2 : Stack Y) → Alike a b → a ≡ with_top a.top (begun a2) → b ≡ with_top b.top (begun b2) → zip_stacks a b ≡ with_top (zip_stacks a b).top (begun (zip_stacks a2 b2))
  zip_undone a a2 b b2 h e e2 =
      ap (λ s. zip_stacks s b) e ∙ ap (zip_stacks (with_top a.top (begun a2))) e2
      ∙ ap (λ under. record { under = under; top = (a.top, b.top); revision = a2.revision + 1; shelf = zip_shelves a2.shelf b2.shelf })
      (zip_maps a2 b2 (ended_alike a a2 b b2 a2.top b2.top h.under (ap (λ s. s.under) e) (ap (λ s. s.under) e2)))

  pub zip_squashed : (a a2 : Stack X) (b b2 : Stack Y) → Alike a b → IsSquashed a a2 → IsSquashed b b2 → IsSquashed (zip_stacks a b) (zip_stacks a2 b2)
  zip_squashed a a2 b b2 h e e2 = (
    (e.0, e2.0),
    ap (λ s. zip_stacks s b) e.1 ∙ ap (zip_stacks (with_session e.0 a2)) e2.1
        ∙ ap (λ under. record { under = under; top = (a2.top, b2.top); revision = a2.revision + 1; shelf = zip_shelves a2.shelf b2.shelf })
        (zip_append a2.under b2.under (e.0 ∷ []) (e2.0 ∷ []) (ended_alike a a2 b b2 e.0 e2.0 h.under (ap (λ s. s.under) e.1) (ap (λ s. s.under) e2.1))),
  )

  pub zip_committed : (a a2 : Stack X) (b b2 : Stack Y) (r : ℕ) → Alike a b → a2 ≡ committed r a → b2 ≡ committed r b → zip_stacks a2 b2 ≡ committed r (zip_stacks a b)
  zip_committed a a2 b b2 r h e e2 =
      ap (λ s. zip_stacks s b2) e ∙ ap (zip_stacks (committed r a)) e2
      ∙ ap (λ under. record { under = under; top = (a.top, b.top); revision = a.revision; shelf = zip_shelves a.shelf b.shelf })
      (zip_newest (a.revision - r) (b.revision - r) a.under b.under (ap (λ n. n - r) h.revision) h.under)

  pub shelved_alike : (a a2 : Stack X) (b b2 : Stack Y) (r : ℕ) → Alike a b → IsShelved r a a2 → IsShelved r b b2 → length a2.under ≡ length b2.under
  shelved_alike a a2 b b2 r h s t =
      alike_maps a2 b2
      (ap length s.maps
      ∙ without_alike (a.revision - r) (b.revision - r) (maps_of a) (maps_of b) (ap (λ n. n - r) h.revision) (maps_alike a b h.under)
      ∙ sym (ap length t.maps))

  pub zip_shelved : (a a2 : Stack X) (b b2 : Stack Y) (r : ℕ) → Alike a b → IsShelved r a a2 → IsShelved r b b2 → IsShelved r (zip_stacks a b) (zip_stacks a2 b2)
  zip_shelved a a2 b b2 r h s t = record {
    maps = sym (zip_maps a2 b2 (shelved_alike a a2 b b2 r h s t))
        ∙ ap (λ maps. zip maps (maps_of b2)) s.maps ∙ ap (zip (without_newest n (maps_of a))) t.maps
        ∙ zip_without n (b.revision - r) (maps_of a) (maps_of b) same (maps_alike a b h.under) ∙ ap (without_newest n) (zip_maps a b h.under);
    revision = s.revision;
    shelf = ap (λ o. zip_shelves o b2.shelf) s.shelf ∙ ap (zip_shelves (Some (record { revision = r; maps = newest n (maps_of a) }))) t.shelf
        ∙ ap (λ maps. Some (record { revision = r; maps = maps }))
        (zip_newest n (b.revision - r) (maps_of a) (maps_of b) same (maps_alike a b h.under) ∙ ap (newest n) (zip_maps a b h.under));
  }
    where
      n : ℕ
      n = a.revision - r

      same : n ≡ b.revision - r
      same = ap (λ k. k - r) h.revision

  zip_back : (p : Option (Shelf X)) (q : Option (Shelf Y)) (a a2 : Stack X) (b b2 : Stack Y) → AlikeShelves p q → Alike a b → IfSome p (λ back. IsBroughtBack back a a2) → IfSome q (λ back. IsBroughtBack back b b2) → IfSome (zip_shelves p q) (λ back. IsBroughtBack back (zip_stacks a b) (zip_stacks a2 b2))
  zip_back None q a a2 b b2 alike h s t = tt
  zip_back (Some p) None a a2 b b2 alike h s t = absurd alike
  zip_back (Some p) (Some q) a a2 b b2 alike h s t = record {
    maps = sym (zip_maps a2 b2 level) ∙ ap (λ maps. zip maps (maps_of b2)) s.maps ∙ ap (zip (without_newest n (maps_of a) ++ p.maps)) t.maps
        ∙ zip_append (without_newest n (maps_of a)) (without_newest k (maps_of b)) p.maps q.maps (without_alike n k (maps_of a) (maps_of b) same (maps_alike a b h.under))
        ∙ ap (λ maps. maps ++ zip p.maps q.maps) (zip_without n k (maps_of a) (maps_of b) same (maps_alike a b h.under) ∙ ap (without_newest n) (zip_maps a b h.under));
    revision = s.revision ∙ ap (λ k. p.revision + k) (sym (zip_length p.maps q.maps alike.1));
    shelf = ap (λ o. zip_shelves o b2.shelf) s.shelf;
  }
    where
      n : ℕ
      n = a.revision - p.revision

      k : ℕ
      k = b.revision - q.revision

      same : n ≡ k
      same = ap (λ i. i - p.revision) h.revision ∙ ap (λ i. b.revision - i) alike.0

      level : length a2.under ≡ length b2.under
      level = alike_maps a2 b2
          (ap length s.maps ∙ length-append (without_newest n (maps_of a)) p.maps
          ∙ ap (λ i. i + length p.maps) (without_alike n k (maps_of a) (maps_of b) same (maps_alike a b h.under)) ∙ ap (λ i. length (without_newest k (maps_of b)) + i) alike.1
          ∙ sym (length-append (without_newest k (maps_of b)) q.maps) ∙ sym (ap length t.maps))

  pub zip_unshelved : (a a2 : Stack X) (b b2 : Stack Y) → Alike a b → IsUnshelved a a2 → IsUnshelved b b2 → IsUnshelved (zip_stacks a b) (zip_stacks a2 b2)
  zip_unshelved a a2 b b2 h s t = zip_back a.shelf b.shelf a a2 b b2 h.shelf h s t

  zip_within : (p : Option (Shelf X)) (q : Option (Shelf Y)) (a : Stack X) (b : Stack Y) → AlikeShelves p q → Alike a b → IfSome p (IsWithin a) → IfSome (zip_shelves p q) (IsWithin (zip_stacks a b))
  zip_within None q a b alike h is = tt
  zip_within (Some p) None a b alike h is = absurd alike
  zip_within (Some p) (Some q) a b alike h is = record {
    from = is.from;
    since = subst (λ n. a.revision ≤ p.revision + n) (sym (zip_length a.under b.under h.under)) is.since;
    small = subst (λ n. p.revision + n < 2 ^ 63) (sym (zip_length p.maps q.maps alike.1)) is.small;
  }

  pub open_sessions : (a : Stack X) (b : Stack Y) → Alike a b → length (zip_stacks a b).under ≡ length a.under
  open_sessions a b h = zip_length a.under b.under h.under

  pub zip_sound : (a : Stack X) (b : Stack Y) → Alike a b → IsSound a → IsSound (zip_stacks a b)
  zip_sound a b h is = record {
    small = is.small;
    sessions = subst (λ n. n ≤ a.revision) (sym (open_sessions a b h)) is.sessions;
    shelf = zip_within a.shelf b.shelf a b h.shelf h is.shelf;
  }
