-- Blocks whose numbers tell their places.
use Rattle.std.specs.Prelude.{◌≡◌, ℕ, ◌+◌, List, [], ◌∷◌, Option, None, Some}
use Rattle.ante_types.specs.declared.chain.Block.{Block}
use Rattle.ante_fork.specs.declared.node.Node.{Node}
use Rattle.ante_fork.specs.Tree.{num_of}

-- the oldest has the number, and each one the next
abbrev pub AllFrom : ℕ → List Node → Type 0
AllFrom num [] = Unit {0}
AllFrom num (n ∷ nodes) = (num_of n.block.value ≡ num) × AllFrom (num + 1) nodes

-- the block of a node, else another answer
abbrev pub block_or : Option Block → Option Node → Option Block
block_or other None = other
block_or other (Some n) = Some n.block.value
