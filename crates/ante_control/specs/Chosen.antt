-- Which branch is chosen, over all arrivals, and what a branch's replay from genesis is.
use Rattle.std.specs.Prelude.{ℕ, Bool, nat_lt, if◌then◌else◌, List, [], ◌∷◌, ◌++◌, Result, Ok, Err}
use Rattle.ante_types.specs.declared.chain.Block.{Block}
use Rattle.ante_types.specs.declared.chain.Genesis.{Genesis}
use Rattle.ante_types.specs.declared.chain.Head.{Head}
use Rattle.ante_types.specs.Ids.{block_num}
use Rattle.ante_verdicts.specs.Judge.{Judge}
use Rattle.ante_machine.specs.Steps.{Steps, onward, block_runs}
use Rattle.ante_fork.specs.Finality.{settled}
use Rattle.ante_fork.specs.Tree.{Tree, id_of, num_of, branch, with_block, with_head, dropped, root, genesis_block}

-- what a replay rests on: what an engine does, the chain id, the verdicts, and genesis's world
pub record Play (W : Type 0) : Type 0 where
  pub steps : Steps W
  pub chain : List ℕ
  pub judge : Judge
  pub first : W

abbrev pub play_of : {W : Type 0} → Steps W → Judge → (chain : List ℕ) → (first : W) → Play W
play_of steps judge chain first = record { steps = steps; chain = chain; judge = judge; first = first }

-- the first block of a branch that fails, and its number
pub record Failed : Type 0 where
  pub block : List ℕ
  pub code : ℕ

module _ {W : Type 0} where
  abbrev pub named : (id : List ℕ) → Result W ℕ → Result W Failed
  named id (Ok w) = Ok w
  named id (Err code) = Err (record { block = id; code = code })

  -- The world after a branch, given from its upper end down: genesis's world, and on it each block in turn.
  abbrev pub replay : Play W → List Block → Result W Failed
  replay p [] = Ok p.first
  replay p (b ∷ below) = onward (λ w. named (id_of b) (block_runs p.steps p.chain p.judge w b)) (replay p below)

-- the kept blocks with the head among them, and the heads so far, genesis first
pub record Choice : Type 0 where
  pub tree : Tree
  pub applied : List Head

abbrev pub head_of : Block → Head
head_of b = record { num = num_of b; id = id_of b }

abbrev pub head_at : Tree → Head
head_at t = record { num = block_num t.head; id = t.head }

-- genesis alone
abbrev pub started : Genesis → Choice
started g = record { tree = root g.producers (genesis_block g); applied = record { num = 1; id = id_of (genesis_block g) } ∷ [] }

abbrev pub is_longer : Choice → Block → Bool
is_longer c b = nat_lt (block_num c.tree.head) (num_of b)

-- the branch that the block ends
abbrev pub branch_with : Choice → Block → List Block
branch_with c b = branch (id_of b) (b ∷ c.tree.kept)

module _ {W : Type 0} where
  -- The branch of a block is longer than the head's: the block is the head where the branch's replay succeeds, else the
  -- first block that fails is dropped, with all above it.
  abbrev pub tried : Result W Failed → Choice → Block → Choice
  tried (Ok w) c b = record { tree = settled (with_head (id_of b) (with_block b c.tree)); applied = c.applied ++ head_of b ∷ [] }
  tried (Err f) c b = record { tree = dropped f.block (with_block b c.tree); applied = c.applied }

  -- A block that keeps the rules arrives. A tie keeps the head.
  abbrev pub arrived : Play W → Choice → Block → Choice
  arrived p c b =
      if is_longer c b then tried (replay p (branch_with c b)) c b
      else record { tree = settled (with_block b c.tree); applied = c.applied }

  -- all arrivals, in order
  abbrev pub chosen : Play W → Choice → List Block → Choice
  chosen p c [] = c
  chosen p c (b ∷ bs) = chosen p (arrived p c b) bs
