-- A chain's parts as contracts see them.
use Rattle.std.specs.Prelude.{ℕ, List, Option, None, Some}
use Rattle.ante_types.specs.declared.chain.BlockInfo.{BlockInfo}
use Rattle.ante_types.specs.declared.chain.Head.{Head}
use Rattle.ante_types.specs.declared.chain.Receipt.{Receipt}
use Rattle.ante_undo.specs.Stack.{Stack}
use Rattle.ante_machine.specs.Stacks.{Pending}
use Rattle.ante_fork.specs.Tree.{Tree}
use Rattle.ante_control.specs.Making.{Making}
use Rattle.ante_control.specs.Tabled.{Standing}

module _ {W : Type 0} where
  -- the machine's pending block with the receipts
  abbrev pub making : List Receipt → Option (Pending W) → Option (Making W)
  making receipts None = None
  making receipts (Some p) = Some (record { info = p.info; receipts = receipts; world = p.world })

  abbrev pub info_shown : Option (Pending W) → Option BlockInfo
  info_shown None = None
  info_shown (Some p) = Some p.info

  abbrev pub standing : Tree → List Head → (chain : List ℕ) → Stack W → Option (Making W) → (counted : ℕ) → Standing W
  standing tree applied chain stack pending counted =
      record { choice = record { tree = tree; applied = applied }; chain = chain; stack = stack; pending = pending; counted = counted }
