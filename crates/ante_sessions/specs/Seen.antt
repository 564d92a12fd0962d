-- A stack whose values are seen through a function, and what holds of all of them.
use Rattle.std.specs.Prelude.{map, IfSome}
use Rattle.std.specs.Option.{option_map}
use Rattle.std.specs.List.{AllByRecursion}
use Rattle.ante_undo.specs.Stack.{Stack, Shelf}

module _ {M N : Type 0} (f : M → N) where
  abbrev pub map_shelf : Shelf M → Shelf N
  map_shelf shelf = record { revision = shelf.revision; maps = map f shelf.maps }

  -- the stack of what the function makes of each value
  abbrev pub map_stack : Stack M → Stack N
  map_stack s = record { under = map f s.under; top = f s.top; revision = s.revision; shelf = option_map map_shelf s.shelf }

-- the rule holds of the top, of all that lies under it and of all that is on the shelf
pub record Throughout {M : Type 0} (P : M → Type 0) (s : Stack M) : Type 0 where
  pub under : AllByRecursion P s.under
  pub top : P s.top
  pub shelf : IfSome s.shelf (λ shelf. AllByRecursion P shelf.maps)
