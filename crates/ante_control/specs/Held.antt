-- What a chain keeps of the block that it makes.
use Rattle.std.specs.Prelude.{◌≡◌, ℕ, ◌+◌, ◌≤◌, List, length, Option, IfSome}
use Rattle.std.specs.List.{flat_map, AllByRecursion}
use Rattle.ante_types.specs.declared.chain.BlockInfo.{BlockInfo}
use Rattle.ante_types.specs.declared.chain.Receipt.{Receipt}
use Rattle.ante_types.specs.Chain.{block, receipt}
use Rattle.ante_types.specs.Ids.{block_num}
use Rattle.ante_machine.specs.Stacks.{Pending}
use Rattle.ante_fork.specs.Tree.{Tree}
use Rattle.ante_control.specs.Making.{IsTurn, roomy_block, most_block_bytes}
use Rattle.ante_control.specs.Shown.{info_shown}

-- it follows the head
pub record IsNext (t : Tree) (info : BlockInfo) : Type 0 where
  pub num : info.num ≡ block_num t.head + 1
  pub previous : info.previous ≡ t.head
  pub turn : IsTurn t info.slot info.producer

-- the info is the machine's, and the receipts are those of a block that isn't too long
pub record IsHeld {W : Type 0} (t : Tree) (info : Option BlockInfo) (receipts : List Receipt) (size : ℕ) (pending : Option (Pending W)) : Type 0 where
  pub same : info ≡ info_shown pending
  pub next : IfSome info (IsNext t)
  pub bytes : size ≡ length (flat_map receipt.spell receipts)
  pub small : length (block.spell (roomy_block receipts)) ≤ most_block_bytes
  pub fits : AllByRecursion receipt.Fits receipts
