-- What running the blocks of a branch on a machine leaves and answers.
use Rattle.std.specs.Prelude.{◌≡◌, ℕ, ◌+◌, List, ◌++◌, length, true, is_some, None, Result, Ok, Err}
use Rattle.ante_types.specs.declared.chain.Block.{Block}
use Rattle.ante_undo.specs.Stack.{Stack, maps_of}
use Rattle.ante_fork.specs.Tree.{id_of, find_block}
use Rattle.ante_control.specs.declared.branches.BranchError.{BranchError}
use Rattle.ante_control.specs.declared.branches.BranchError.TheVariants.{OutOfMemory, Invalid}
use Rattle.ante_control.specs.Chosen.{Play, replay}
use Rattle.ante_control.specs.Tabled.{worlds, Holds}

-- k worlds more
pub record Grown {W : Type 0} (k : ℕ) (old new : Stack W) : Type 0 where
  pub more : List W
  pub count : length more ≡ k
  pub maps : maps_of new ≡ maps_of old ++ more
  pub revision : new.revision ≡ old.revision + k
  pub shelf : new.shelf ≡ old.shelf

module _ {W : Type 0} where
  -- The worlds are the replays of the whole branch, or this block of it fails.
  abbrev pub BranchEnds : {A : Type 0} → Play W → List Block → Stack W → Result A BranchError → Type 0
  BranchEnds p blocks new (Ok done) = Holds p blocks (worlds new)
  BranchEnds p blocks new (Err OutOfMemory) = Unit {0}
  BranchEnds p blocks new (Err (Invalid block code)) = replay p blocks ≡ Err (record { block = block; code = code })

  -- The same wherever the worlds are those of a lower branch, whatever genesis's world is.
  abbrev pub RunsBranch : {A : Type 0} → (W → Play W) → (low blocks : List Block) → (old new : Stack W) → Result A BranchError → Type 0
  RunsBranch play low blocks old new result = (first : W) → Holds (play first) low (worlds old) → BranchEnds (play first) blocks new result

-- a branch in the place of another: no shelf is left, and as deep a stack
pub record IsReplaced {W : Type 0} (num : ℕ) (old new : Stack W) : Type 0 where
  pub no_shelf : new.shelf ≡ None
  pub revision : new.revision ≡ num
  pub depth : length new.under + old.revision ≡ length old.under + new.revision

-- the block that fails is one of the branch, and isn't on the head's
pub record IsBeside (chosen blocks : List Block) (id : List ℕ) : Type 0 where
  pub off : find_block id chosen ≡ None
  pub on : is_some (find_block id blocks) ≡ true

abbrev pub IsOff : {A : Type 0} → (chosen blocks : List Block) → Result A BranchError → Type 0
IsOff chosen blocks (Ok done) = Unit {0}
IsOff chosen blocks (Err OutOfMemory) = Unit {0}
IsOff chosen blocks (Err (Invalid block code)) = IsBeside chosen blocks block

-- the block that fails is this one
abbrev pub IsOf : Block → Result (Unit {0}) BranchError → Type 0
IsOf b (Ok done) = Unit {0}
IsOf b (Err OutOfMemory) = Unit {0}
IsOf b (Err (Invalid block code)) = block ≡ id_of b
