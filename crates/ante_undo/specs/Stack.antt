-- A stack of whole values under nested sessions, and what each session call makes of it.
use Rattle.std.specs.Prelude.{◌≡◌, ℕ, ◌+◌, ◌-◌, ◌^◌, ◌<◌, ◌≤◌, Option, Some, None, IfSome}
use Rattle.std.specs.Prelude.{List, [], ◌∷◌, ◌++◌, length, take, drop, slice_index_or}

-- the values that `shelve` took off the stack, the oldest first, and the revision that it went back to
pub record Shelf (M : Type 0) : Type 0 where
  pub revision : ℕ
  pub maps : List M

-- `top` is the value as it is now. Each open session has the value in `under` that it began with, the oldest session first.
-- The newest session has the number `revision`, the one before it the number below, and so on.
pub record Stack (M : Type 0) : Type 0 where
  pub under : List M
  pub top : M
  pub revision : ℕ
  pub shelf : Option (Shelf M)

module _ {X : Type 0} where
  -- the last n of the list, and the list without them
  abbrev pub newest : ℕ → List X → List X
  newest n xs = drop (length xs - n) xs

  abbrev pub without_newest : ℕ → List X → List X
  without_newest n xs = take (length xs - n) xs

module _ {M : Type 0} where
  -- no session is open, and nothing is on the shelf
  abbrev pub opened : M → ℕ → Stack M
  opened m revision = record { under = []; top = m; revision = revision; shelf = None }

  -- all values of the stack, the oldest first
  abbrev pub maps_of : Stack M → List M
  maps_of s = s.under ++ s.top ∷ []

  abbrev pub with_top : M → Stack M → Stack M
  with_top m s = record { under = s.under; top = m; revision = s.revision; shelf = s.shelf }

  -- one more session, which began with m
  abbrev pub with_session : M → Stack M → Stack M
  with_session m s = record { under = s.under ++ m ∷ []; top = s.top; revision = s.revision + 1; shelf = s.shelf }

  -- a new session begins with a copy of the top
  abbrev pub begun : Stack M → Stack M
  begun s = with_session s.top s

  -- the newest session of the old stack has become a part of the one below it
  abbrev pub IsSquashed : Stack M → Stack M → Type 0
  IsSquashed old new = (m : M) × (old ≡ with_session m new)

  -- the value that the newest session began with
  abbrev pub under_top : Stack M → M
  under_top s = slice_index_or s.under (length s.under - 1) s.top

  -- the sessions up to the revision are closed for good: only those above it can still be taken back
  abbrev pub committed : ℕ → Stack M → Stack M
  committed r s = record { under = newest (s.revision - r) s.under; top = s.top; revision = s.revision; shelf = s.shelf }

  -- the sessions above the revision have moved to the shelf
  pub record IsShelved (r : ℕ) (old new : Stack M) : Type 0 where
    pub maps : maps_of new ≡ without_newest (old.revision - r) (maps_of old)
    pub revision : new.revision ≡ r
    pub shelf : new.shelf ≡ Some (record { revision = r; maps = newest (old.revision - r) (maps_of old) })

  -- the sessions begun since the shelf was made are dropped, and those on the shelf are back
  pub record IsBroughtBack (back : Shelf M) (old new : Stack M) : Type 0 where
    pub maps : maps_of new ≡ without_newest (old.revision - back.revision) (maps_of old) ++ back.maps
    pub revision : new.revision ≡ back.revision + length back.maps
    pub shelf : new.shelf ≡ None

  abbrev pub IsUnshelved : Stack M → Stack M → Type 0
  IsUnshelved old new = IfSome old.shelf (λ shelf. IsBroughtBack shelf old new)

  -- nothing is on the shelf any more
  abbrev pub without_shelf : Stack M → Stack M
  without_shelf s = record { under = s.under; top = s.top; revision = s.revision; shelf = None }

  -- while a shelf is out, at least n sessions have begun since
  abbrev pub IsAbove : ℕ → Stack M → Type 0
  IsAbove n s = IfSome s.shelf (λ shelf. shelf.revision + n ≤ s.revision)

  -- the shelf lies within the stack's revisions, and there is room for it
  pub record IsWithin (s : Stack M) (shelf : Shelf M) : Type 0 where
    pub from : shelf.revision ≤ s.revision
    pub since : s.revision ≤ shelf.revision + length s.under
    pub small : shelf.revision + length shelf.maps < 2 ^ 63

  -- what holds of every stack
  pub record IsSound (s : Stack M) : Type 0 where
    pub small : s.revision < 2 ^ 63
    pub sessions : length s.under ≤ s.revision
    pub shelf : IfSome s.shelf (IsWithin s)
