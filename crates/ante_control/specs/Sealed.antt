-- What sealing leaves.
use Rattle.std.specs.Prelude.{◌≡◌, ◌≤◌, [], ◌∷◌, ◌++◌, length, None, IsNone}
use Rattle.ante_pack.specs.Forms.{list_of}
use Rattle.ante_types.specs.declared.chain.Block.{Block}
use Rattle.ante_types.specs.Chain.{block, receipt}
use Rattle.ante_verdicts.specs.Judge.{Judge}
use Rattle.ante_fork.specs.Finality.{settled}
use Rattle.ante_fork.specs.Tree.{id_of, with_block, with_head}
use Rattle.ante_control.specs.Chosen.{Choice, head_of}
use Rattle.ante_control.specs.Making.{most_block_bytes}
use Rattle.ante_control.specs.Pushing.{barrier}
use Rattle.ante_control.specs.Tabled.{Standing}

-- the block is kept, and is the head
abbrev pub crowned : Block → Choice → Choice
crowned b c = record { tree = settled (with_head (id_of b) (with_block b c.tree)); applied = c.applied ++ head_of b ∷ [] }

-- Whatever the tables are: the block breaks no rule, its receipts can be packed, it isn't too long, and it is the head.
pub record IsCrowned {W : Type 0} (judge : Judge) (b : Block) (old new : Standing W) : Type 0 where
  pub passes : barrier judge old.choice.tree b ≡ None
  pub fits : (list_of receipt).Fits b.receipts
  pub short : length (block.spell b) ≤ most_block_bytes
  pub choice : new.choice ≡ crowned b old.choice
  pub idle : IsNone new.pending
