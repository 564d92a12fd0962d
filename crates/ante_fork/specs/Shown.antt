-- What the code's nodes stand for.
use Rattle.std.specs.Prelude.{◌≡◌, ℕ, ◌<◌, List, [], ◌∷◌, ◌++◌, length, Bool, ◌||◌, ◌&&◌, if◌then◌else◌, is_some, bytes_eq}
use Rattle.std.specs.List.{AllByRecursion}
use Rattle.ante_types.specs.declared.chain.Block.{Block}
use Rattle.ante_fork.specs.declared.node.Node.{Node}
use Rattle.ante_fork.specs.Tree.{id_of, find_block}

-- the blocks, the newest first
abbrev pub newest : List Node → List Block
newest [] = []
newest (n ∷ ns) = newest ns ++ n.block.value ∷ []

-- each node has its block's id
abbrev pub IsNamed : Node → Type 0
IsNamed n = n.id ≡ id_of n.block.value

-- these are the newest node and the older ones
pub record IsNewest (nodes : List Node) (node : Node) (older : List Node) : Type 0 where
  pub newest : newest nodes ≡ node.block.value ∷ newest older
  pub id : node.id ≡ id_of node.block.value
  pub named : AllByRecursion IsNamed older
  pub shorter : length older < length nodes

-- whether a node stays on those that stay below it
abbrev pub test_on : (Block → Bool) → List ℕ → List Node → Node → Bool
test_on stays genesis front n =
    stays n.block.value && (bytes_eq n.block.value.header.previous genesis || is_some (find_block n.block.value.header.previous (newest front)))

-- the nodes in front, and of the rest those that stay
abbrev pub sifted : (Block → Bool) → List ℕ → List Node → List Node → List Node
sifted stays genesis front [] = front
sifted stays genesis front (n ∷ rest) = sifted stays genesis (if test_on stays genesis front n then front ++ n ∷ [] else front) rest
