-- Two stacks side by side, seen as one stack of pairs.
use Rattle.std.specs.Prelude.{◌≡◌, length, Option, Some, None}
use Rattle.std.specs.List.{zip}
use Rattle.ante_undo.specs.Stack.{Stack, Shelf}

module _ {X Y : Type 0} where
  abbrev pub zip_shelves : Option (Shelf X) → Option (Shelf Y) → Option (Shelf (X × Y))
  zip_shelves None b = None
  zip_shelves (Some a) None = None
  zip_shelves (Some a) (Some b) = Some (record { revision = a.revision; maps = zip a.maps b.maps })

  -- each value of the one stack beside that of the other
  abbrev pub zip_stacks : Stack X → Stack Y → Stack (X × Y)
  zip_stacks a b = record {
    under = zip a.under b.under;
    top = (a.top, b.top);
    revision = a.revision;
    shelf = zip_shelves a.shelf b.shelf;
  }

  -- both shelves are empty, or both have as many values from the same revision
  abbrev pub AlikeShelves : Option (Shelf X) → Option (Shelf Y) → Type 0
  AlikeShelves None None = Unit {0}
  AlikeShelves None (Some b) = ⊥
  AlikeShelves (Some a) None = ⊥
  AlikeShelves (Some a) (Some b) = (a.revision ≡ b.revision) × (length a.maps ≡ length b.maps)

  -- the two stacks are in the same sessions
  pub record Alike (a : Stack X) (b : Stack Y) : Type 0 where
    pub under : length a.under ≡ length b.under
    pub revision : a.revision ≡ b.revision
    pub shelf : AlikeShelves a.shelf b.shelf
