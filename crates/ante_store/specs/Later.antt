-- A stack whose revisions are counted from one more.
use Rattle.std.specs.Prelude.{◌+◌, ◌^◌, ◌<◌, length, IfSome}
use Rattle.std.specs.Option.{option_map}
use Rattle.ante_undo.specs.Stack.{Stack, Shelf}

module _ {M : Type 0} where
  abbrev pub later_shelf : Shelf M → Shelf M
  later_shelf shelf = record { revision = shelf.revision + 1; maps = shelf.maps }

  -- the same values, each at a revision one higher
  abbrev pub later : Stack M → Stack M
  later s = record { under = s.under; top = s.top; revision = s.revision + 1; shelf = option_map later_shelf s.shelf }

  -- there is room for one more session, also above the shelf
  pub record HasRoom (s : Stack M) : Type 0 where
    pub small : s.revision + 1 < 2 ^ 63
    pub shelf : IfSome s.shelf (λ shelf. shelf.revision + length shelf.maps + 1 < 2 ^ 63)
