-- Links in memory.
use Rattle.std.specs.Prelude.{◌≡◌, ℕ, List, Option, None, map, option_map, IfSome}
use Rattle.std.specs.List.{AllByRecursion}
use Rattle.ante_links.specs.LinkStates.{LinkState, Door, fresh_link}

-- the links that were given, what the calls of `accept` are still to give (none where a call waits), and the door
pub record LinkSet : Type 0 where
  pub given : List LinkState
  pub coming : List (Option LinkState)
  pub door : Door

-- no call of the link was made
abbrev pub IsFresh : Option LinkState → Type 0
IsFresh o = IfSome o (λ l. l ≡ fresh_link l.left)

-- the whole inputs of what is to come
abbrev pub inputs_of : List (Option LinkState) → List (Option (List ℕ))
inputs_of coming = map (option_map (λ (l : LinkState). l.left)) coming
