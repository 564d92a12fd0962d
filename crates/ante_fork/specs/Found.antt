-- Kept blocks by id, in a map beside their list.
use Rattle.std.specs.Prelude.{◌≡◌, ℕ, List, [], ◌∷◌, Option, None, Some}
use Rattle.std.specs.List.{AllByRecursion}
use Rattle.std.specs.BTreeMap.{BTreeMap, get}
use Rattle.std.specs.Ordering.{nat_cmp}
use Rattle.std.specs.Cmp.Lexicographic.{slice_cmp}
use Rattle.std.specs.declared.rc.Rc.{Rc}
use Rattle.ante_types.specs.declared.chain.Block.{Block}
use Rattle.ante_fork.specs.declared.node.Node.{Node}
use Rattle.ante_fork.specs.Tree.{id_of, find_block}
use Rattle.ante_fork.specs.Shown.{newest, IsNamed}

abbrev pub block_shown : {Z : Type 0} → Option (Rc Block Z) → Option Block
block_shown None = None
block_shown (Some block) = Some block.value

-- no id is there twice
abbrev pub AreDistinct : List Block → Type 0
AreDistinct [] = Unit {0}
AreDistinct (b ∷ older) = (find_block (id_of b) older ≡ None) × AreDistinct older

-- The map has the block of each id, and no other.
pub record IsFound {Z : Type 0} (blocks : BTreeMap (List ℕ) (Rc Block Z)) (nodes : List Node) : Type 0 where
  pub named : AllByRecursion IsNamed nodes
  pub distinct : AreDistinct (newest nodes)
  pub finds : (id : List ℕ) → block_shown (get (slice_cmp nat_cmp) blocks id) ≡ find_block id (newest nodes)
