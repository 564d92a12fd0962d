-- What each session call makes of a stack whose values are seen through a function, and that a rule which holds throughout stays.
use Rattle.std.proofs.Common.{◌≡◌, ℕ, zero, suc, ◌+◌, ◌-◌, List, [], ◌∷◌, ◌++◌, map, take, drop, length, Option, Some, None, IfSome, IsSome, option_map, true≢false, sym, ap, subst, ◌∙◌}
use Rattle.std.proofs.lemmas.List.{length-map, map-append, drop-map, take-map}
use Rattle.std.specs.List.{AllByRecursion}
use Rattle.ante_undo.specs.Stack.{Stack, Shelf, newest, without_newest, maps_of, with_top, committed, IsShelved, IsBroughtBack, IsUnshelved}
use Rattle.ante_undo.proofs.Lists.{all_front, all_back, all_append}
use Rattle.ante_sessions.specs.Seen.{map_shelf, map_stack, Throughout}

module _ {M N : Type 0} (f : M → N) where
  seen_newest : (n : ℕ) (xs : List M) → map f (newest n xs) ≡ newest n (map f xs)
  seen_newest n xs = sym (drop-map f (length xs - n) xs) ∙ ap (λ k. drop (k - n) (map f xs)) (sym (length-map xs f))

  seen_without : (n : ℕ) (xs : List M) → map f (without_newest n xs) ≡ without_newest n (map f xs)
  seen_without n xs = sym (take-map f (length xs - n) xs) ∙ ap (λ k. take (k - n) (map f xs)) (sym (length-map xs f))

  seen_maps : (s : Stack M) → map f (maps_of s) ≡ maps_of (map_stack f s)
  seen_maps s = map-append f s.under (s.top ∷ [])

  pub seen_committed : (r : ℕ) (s t : Stack M) → t ≡ committed r s → map_stack f t ≡ committed r (map_stack f s)
  seen_committed r s t e =
      ap (map_stack f) e
      ∙ ap (λ under. record { under = under; top = f s.top; revision = s.revision; shelf = option_map (map_shelf f) s.shelf }) (seen_newest (s.revision - r) s.under)

  pub seen_shelved : (r : ℕ) (s t : Stack M) → IsShelved r s t → IsShelved r (map_stack f s) (map_stack f t)
  seen_shelved r s t h = record {
    maps = sym (seen_maps t) ∙ ap (map f) h.maps ∙ seen_without n (maps_of s) ∙ ap (without_newest n) (seen_maps s);
    revision = h.revision;
    shelf = ap (option_map (map_shelf f)) h.shelf ∙ ap (λ maps. Some (record { revision = r; maps = maps })) (seen_newest n (maps_of s) ∙ ap (newest n) (seen_maps s));
  }
    where
      n : ℕ
      n = s.revision - r

  seen_back : (o : Option (Shelf M)) (s t : Stack M) → IfSome o (λ back. IsBroughtBack back s t) → IfSome (option_map (map_shelf f) o) (λ back. IsBroughtBack back (map_stack f s) (map_stack f t))
  seen_back None s t h = tt
  seen_back (Some back) s t h = record {
    maps = sym (seen_maps t) ∙ ap (map f) h.maps ∙ map-append f (without_newest n (maps_of s)) back.maps
        ∙ ap (λ maps. maps ++ map f back.maps) (seen_without n (maps_of s) ∙ ap (without_newest n) (seen_maps s));
    revision = h.revision ∙ ap (λ k. back.revision + k) (sym (length-map back.maps f));
    shelf = ap (option_map (map_shelf f)) h.shelf;
  }
    where
      n : ℕ
      n = s.revision - back.revision

  pub seen_unshelved : (s t : Stack M) → IsUnshelved s t → IsUnshelved (map_stack f s) (map_stack f t)
  seen_unshelved s t h = seen_back s.shelf s t h

module _ {M : Type 0} (P : M → Type 0) where
  all_take : (n : ℕ) (xs : List M) → AllByRecursion P xs → AllByRecursion P (take n xs)
  all_take zero xs h = tt
  all_take (suc n) [] h = tt
  all_take (suc n) (x ∷ xs) h = (h.0, all_take n xs h.1)

  kept_back : (o : Option (Shelf M)) (s t : Stack M) → IsSome o → Throughout P s → IfSome o (λ back. AllByRecursion P back.maps) → IfSome o (λ back. IsBroughtBack back s t) → Throughout P t
  kept_back None s t some is shelf h = absurd (true≢false (sym some))
  kept_back (Some back) s t some is shelf h = record {
    under = all_front P t.under (t.top ∷ []) all;
    top = (all_back P t.under (t.top ∷ []) all).0;
    shelf = subst (λ o. IfSome o (λ back. AllByRecursion P back.maps)) (sym h.shelf) tt;
  }
    where
      all : AllByRecursion P (maps_of t)
      all = subst (AllByRecursion P) (sym h.maps)
          (all_append P (without_newest (s.revision - back.revision) (maps_of s)) back.maps
          (all_take (length (maps_of s) - (s.revision - back.revision)) (maps_of s) (all_append P s.under (s.top ∷ []) is.under (is.top, tt))) shelf)

  pub kept_unshelved : (s t : Stack M) → IsSome s.shelf → IsUnshelved s t → Throughout P s → Throughout P t
  kept_unshelved s t some h is = kept_back s.shelf s t some is is.shelf h

  -- a rule that holds of a new top, and held before, holds
  pub kept_top : (m : M) (s t : Stack M) → t ≡ with_top m s → P m → Throughout P s → Throughout P t
  kept_top m s t e h is = subst (Throughout P) (sym e) (record { under = is.under; top = h; shelf = is.shelf })
