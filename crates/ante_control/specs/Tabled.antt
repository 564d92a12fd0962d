-- The worlds of a machine against the replays of a branch.
use Rattle.std.specs.Prelude.{◌≡◌, ℕ, ◌+◌, ◌≤◌, true, List, [], ◌∷◌, length, reverse, Option, None, IfSome, Ok}
use Rattle.std.specs.List.{AllByRecursion}
use Rattle.ante_types.specs.declared.chain.Block.{Block}
use Rattle.ante_types.specs.Ids.{block_num}
use Rattle.ante_undo.specs.Stack.{Stack, maps_of}
use Rattle.ante_machine.specs.Steps.{receipts_run}
use Rattle.ante_fork.specs.Finality.{is_open}
use Rattle.ante_fork.specs.Tree.{IsTree, num_of, branch}
use Rattle.ante_control.specs.Chosen.{Play, Choice, replay}
use Rattle.ante_control.specs.Making.{Making}

-- A chain as contracts see it: the choice, the machine's chain id, its worlds and the count of blocks that it ran, and the
-- block that is being made.
pub record Standing (W : Type 0) : Type 0 where
  pub choice : Choice
  pub chain : List ℕ
  pub stack : Stack W
  pub pending : Option (Making W)
  pub counted : ℕ

module _ {W : Type 0} where
  -- all worlds of a stack, the newest first
  abbrev pub worlds : Stack W → List W
  worlds s = reverse (maps_of s)

  -- Each of these worlds, the newest first, is the replay of as much of the branch; genesis's world is the last.
  abbrev pub Holds : Play W → List Block → List W → Type 0
  Holds p bs [] = Unit {0}
  Holds p [] (w ∷ ws) = (replay p [] ≡ Ok w) × (ws ≡ [])
  Holds p (b ∷ below) (w ∷ ws) = (replay p (b ∷ below) ≡ Ok w) × Holds p below ws

  -- The machine's worlds are the replays of the chosen branch.
  abbrev pub IsTabled : Play W → Standing W → Type 0
  IsTabled p s = Holds p (branch s.choice.tree.head s.choice.tree.kept) (worlds s.stack)

  -- The world of the block that is being made is that of its receipts on the newest world.
  abbrev pub IsMade : Play W → Standing W → Type 0
  IsMade p s =
      IfSome s.pending (λ m. receipts_run p.steps p.chain p.judge m.info m.receipts (p.steps.begin p.chain s.stack.top m.info) ≡ Ok m.world)

  abbrev pub with_pending : Option (Making W) → Standing W → Standing W
  with_pending making s = record { choice = s.choice; chain = s.chain; stack = s.stack; pending = making; counted = s.counted }

-- up to the irreversible number only the head's branch is left
abbrev pub AllOpen : ℕ → List Block → List Block → Type 0
AllOpen n chosen kept = AllByRecursion (λ b. is_open n chosen b ≡ true) kept

-- no block of these has a greater number
abbrev pub AllWithin : ℕ → List Block → Type 0
AllWithin n kept = AllByRecursion (λ b. num_of b ≤ n) kept

-- what holds of every chain, whatever the verdicts
pub record IsStanding {W : Type 0} (s : Standing W) : Type 0 where
  pub no_shelf : s.stack.shelf ≡ None
  pub revision : s.stack.revision ≡ block_num s.choice.tree.head
  pub enough : s.stack.revision ≤ s.choice.tree.irreversible + length s.stack.under
  pub open_up : AllOpen s.choice.tree.irreversible (branch s.choice.tree.head s.choice.tree.kept) s.choice.tree.kept
  pub low : s.choice.tree.irreversible ≤ block_num s.choice.tree.head
  pub topmost : AllWithin (block_num s.choice.tree.head) s.choice.tree.kept
  pub tree : IsTree s.choice.tree
