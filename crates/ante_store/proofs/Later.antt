-- What each session call makes of a stack whose revisions are counted from one more.
use Rattle.std.proofs.Common.{◌≡◌, ℕ, ◌+◌, ◌-◌, ◌^◌, ◌≤◌, ◌<◌, ◌++◌, drop, length, Option, Some, None, IfSome, IsSome, option_map, true≢false, sym, ap, subst, ◌∙◌, arith}
use Rattle.ante_undo.specs.Stack.{Stack, Shelf, newest, without_newest, maps_of, with_top, begun, committed, IsSquashed, IsShelved, IsBroughtBack, IsUnshelved, IsSound, IsWithin}
use Rattle.std.proofs.lemmas.List.{length-drop}
use Rattle.ante_store.specs.Later.{later, later_shelf, HasRoom}

module _ {M : Type 0} where
  pub later_undone : (s s2 : Stack M) → s ≡ with_top s.top (begun s2) → later s ≡ with_top (later s).top (begun (later s2))
  later_undone s s2 e = ap later e

  pub later_squashed : (s s2 : Stack M) → IsSquashed s s2 → IsSquashed (later s) (later s2)
  later_squashed s s2 h = (h.0, ap later h.1)

  -- a commit up to a revision is one up to the revision below on the stack within; up to 0 it closes nothing
  pub later_committed : (r : ℕ) (s s2 : Stack M) → length s.under ≤ s.revision → s2 ≡ committed (r - 1) s → later s2 ≡ committed r (later s)
  later_committed r s s2 h e =
      ap later e
      ∙ ap (λ n. record { under = drop n s.under; top = s.top; revision = s.revision + 1; shelf = option_map later_shelf s.shelf }) (omega (arith, h))

  pub later_shelved : (r : ℕ) (s s2 : Stack M) → 1 ≤ r → IsShelved (r - 1) s s2 → IsShelved r (later s) (later s2)
  later_shelved r s s2 le h = record {
    maps = h.maps ∙ ap (λ n. without_newest n (maps_of s)) (omega (arith, le));
    revision = omega (arith, le, h.revision);
    shelf = ap (option_map later_shelf) h.shelf
        ∙ ap (λ n. Some (record { revision = n; maps = newest (s.revision - (r - 1)) (maps_of s) })) (omega (arith, le))
        ∙ ap (λ n. Some (record { revision = r; maps = newest n (maps_of s) })) (omega (arith, le));
  }

  brought_back : (shelf : Shelf M) (s s2 : Stack M) → IsBroughtBack shelf s s2 → IsBroughtBack (later_shelf shelf) (later s) (later s2)
  brought_back shelf s s2 h = record {
    maps = h.maps ∙ ap (λ n. without_newest n (maps_of s) ++ shelf.maps) (omega arith);
    revision = omega (arith, h.revision);
    shelf = ap (option_map later_shelf) h.shelf;
  }

  pub later_unshelved : (s s2 : Stack M) (shelf : Option (Shelf M)) → IfSome shelf (λ shelf. IsBroughtBack shelf s s2) → IfSome (option_map later_shelf shelf) (λ shelf. IsBroughtBack shelf (later s) (later s2))
  later_unshelved s s2 None h = h
  later_unshelved s s2 (Some shelf) h = brought_back shelf s s2 h

  pub later_above : (n : ℕ) (s : Stack M) (shelf : Option (Shelf M)) → IfSome (option_map later_shelf shelf) (λ shelf. shelf.revision + n ≤ s.revision + 1) → IfSome shelf (λ shelf. shelf.revision + n ≤ s.revision)
  later_above n s None h = h
  later_above n s (Some shelf) h = omega (arith, h)

  pub later_sound : (s : Stack M) → HasRoom s → IsSound s → IsSound (later s)
  later_sound s room h = record {
    small = room.small;
    sessions = omega (arith, h.sessions);
    shelf = of_shelf s.shelf room.shelf h.shelf;
  }
    where
      of_shelf : (shelf : Option (Shelf M)) → IfSome shelf (λ shelf. shelf.revision + length shelf.maps + 1 < 2 ^ 63) → IfSome shelf (IsWithin s) → IfSome (option_map later_shelf shelf) (IsWithin (later s))
      of_shelf None room h = h
      of_shelf (Some shelf) room h = record {
        from = omega (arith, h.from);
        since = omega (arith, h.since);
        small = omega (arith, room);
      }

  -- ---- room is kept

  room_of : (s s2 : Stack M) → s2.revision ≤ s.revision → s2.shelf ≡ s.shelf → HasRoom s → HasRoom s2
  room_of s s2 le e room = record {
    small = omega (arith, le, room.small);
    shelf = subst (λ shelf. IfSome shelf (λ shelf. shelf.revision + length shelf.maps + 1 < 2 ^ 63)) (sym e) room.shelf;
  }

  pub room_begun : (s s2 : Stack M) → s2 ≡ begun s → s.revision + 1 + 1 < 2 ^ 63 → HasRoom s → HasRoom s2
  room_begun s s2 e small room = subst HasRoom (sym e) (record { small = small; shelf = room.shelf })

  pub room_undone : (s s2 : Stack M) → s ≡ with_top s.top (begun s2) → HasRoom s → HasRoom s2
  room_undone s s2 e room = room_of s s2 (omega (arith, ap (λ t. t.revision) e)) (sym (ap (λ t. t.shelf) e)) room

  pub room_squashed : (s s2 : Stack M) → IsSquashed s s2 → HasRoom s → HasRoom s2
  room_squashed s s2 h room = room_of s s2 (omega (arith, ap (λ t. t.revision) h.1)) (sym (ap (λ t. t.shelf) h.1)) room

  pub room_shelved : (r : ℕ) (s s2 : Stack M) → r ≤ s.revision → IsShelved r s s2 → HasRoom s → HasRoom s2
  room_shelved r s s2 le h room = record {
    small = omega (arith, h.revision, le, room.small);
    shelf = subst (λ shelf. IfSome shelf (λ shelf. shelf.revision + length shelf.maps + 1 < 2 ^ 63)) (sym h.shelf)
        (omega (arith, length-drop (length (maps_of s) - (s.revision - r)) (maps_of s), le, room.small));
  }

  pub room_unshelved : (s s2 : Stack M) (shelf : Option (Shelf M)) → s.shelf ≡ shelf → IsSome shelf → IsUnshelved s s2 → HasRoom s → HasRoom s2
  room_unshelved s s2 None e there h room = absurd (true≢false (sym there))
  room_unshelved s s2 (Some back) e there h room =
      let h2 : IsBroughtBack back s s2 = subst (λ shelf. IfSome shelf (λ shelf. IsBroughtBack shelf s s2)) e h in
      let room2 : back.revision + length back.maps + 1 < 2 ^ 63 = subst (λ shelf. IfSome shelf (λ shelf. shelf.revision + length shelf.maps + 1 < 2 ^ 63)) e room.shelf in
      record {
        small = omega (arith, h2.revision, room2);
        shelf = subst (λ shelf. IfSome shelf (λ shelf. shelf.revision + length shelf.maps + 1 < 2 ^ 63)) (sym h2.shelf) tt;
      }
