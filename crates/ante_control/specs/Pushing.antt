-- What pushing a block answers, and what it leaves.
use Rattle.std.specs.Prelude.{◌≡◌, ℕ, ◌<◌, Bool, true, false, List, [], ◌∷◌, ◌++◌, length, Option, Some, None, Result, Ok, Err, IsOk, if◌then◌else◌}
use Rattle.ante_types.specs.declared.chain.Block.{Block}
use Rattle.ante_types.specs.declared.chain.Head.{Head as ChainHead}
use Rattle.ante_types.specs.Ids.{block_num}
use Rattle.ante_undo.specs.Stack.{Stack, committed}
use Rattle.ante_verdicts.specs.Judge.{Judge}
use Rattle.ante_fork.specs.declared.AddError.{AddError}
use Rattle.ante_fork.specs.Finality.{settled}
use Rattle.ante_fork.specs.Rules.{refusal}
use Rattle.ante_fork.specs.Tree.{Tree, id_of, branch, with_block, with_head, dropped}
use Rattle.ante_control.specs.declared.error.Pushed.{Pushed}
use Rattle.ante_control.specs.declared.error.Pushed.TheVariants.{Head, Kept}
use Rattle.ante_control.specs.declared.error.PushError.{PushError}
use Rattle.ante_control.specs.declared.error.PushError.TheVariants as push
use Rattle.ante_control.specs.declared.branches.BranchError.{BranchError}
use Rattle.ante_control.specs.declared.branches.BranchError.TheVariants as failed
use Rattle.ante_control.specs.Chosen.{Play, Choice, replay, is_longer, branch_with, arrived}
use Rattle.ante_control.specs.Errors.{pushed_error}
use Rattle.ante_control.specs.Running.{IsReplaced, IsBeside}
use Rattle.ante_control.specs.Tabled.{Standing, IsTabled}

-- ---- the rules of blocks

abbrev pub is_sealed : Judge → Block → Bool
is_sealed judge b = judge.accepts b.header.producer.0 (id_of b) b.seal

abbrev pub barred_by : Option AddError → (sealed : Bool) → Option PushError
barred_by (Some refused) sealed = Some (pushed_error refused)
barred_by None false = Some push.BadSeal
barred_by None true = None

-- the first rule that a block breaks; the last one asks for its seal
abbrev pub barrier : Judge → Tree → Block → Option PushError
barrier judge t b = barred_by (refusal t b) (is_sealed judge b)

-- A refusal by its cause. Want of memory alone is free, and an invalid block breaks no rule.
abbrev pub IsBarred : Option PushError → PushError → Type 0
IsBarred cause push.OutOfMemory = Unit {0}
IsBarred cause push.Known = cause ≡ Some push.Known
IsBarred cause (push.Unlinkable previous) = cause ≡ Some (push.Unlinkable previous)
IsBarred cause push.BadRoot = cause ≡ Some push.BadRoot
IsBarred cause push.BadSlot = cause ≡ Some push.BadSlot
IsBarred cause push.BadProducer = cause ≡ Some push.BadProducer
IsBarred cause push.BadSeal = cause ≡ Some push.BadSeal
IsBarred cause (push.Invalid block code) = cause ≡ None

-- ---- what is answered, and what is left

abbrev pub is_invalid : PushError → Bool
is_invalid push.OutOfMemory = false
is_invalid push.Known = false
is_invalid (push.Unlinkable previous) = false
is_invalid push.BadRoot = false
is_invalid push.BadSlot = false
is_invalid push.BadProducer = false
is_invalid push.BadSeal = false
is_invalid (push.Invalid block code) = true

-- a refusal leaves all as it was, but that an invalid block goes with all above it
abbrev pub refused_choice : Block → PushError → Choice → Choice
refused_choice b push.OutOfMemory c = c
refused_choice b push.Known c = c
refused_choice b (push.Unlinkable previous) c = c
refused_choice b push.BadRoot c = c
refused_choice b push.BadSlot c = c
refused_choice b push.BadProducer c = c
refused_choice b push.BadSeal c = c
refused_choice b (push.Invalid block code) c = record { tree = dropped block (with_block b c.tree); applied = c.applied }

module _ {W : Type 0} where
  pub record Heads (p : Play W) (c : Choice) (b : Block) (position : ℕ) : Type 0 where
    pub passes : barrier p.judge c.tree b ≡ None
    pub longer : is_longer c b ≡ true
    pub replayed : IsOk (replay p (branch_with c b))
    pub place : position ≡ length c.applied

  pub record Waits (p : Play W) (c : Choice) (b : Block) : Type 0 where
    pub passes : barrier p.judge c.tree b ≡ None
    pub longer : is_longer c b ≡ false

  pub record Breaks (p : Play W) (c : Choice) (b : Block) (block : List ℕ) (code : ℕ) : Type 0 where
    pub passes : barrier p.judge c.tree b ≡ None
    pub longer : is_longer c b ≡ true
    pub replayed : replay p (branch_with c b) ≡ Err (record { block = block; code = code })

  -- Each answer by its cause.
  abbrev pub IsAnswer : Play W → Choice → Block → Result Pushed PushError → Type 0
  IsAnswer p c b (Ok (Head position)) = Heads p c b position
  IsAnswer p c b (Ok Kept) = Waits p c b
  IsAnswer p c b (Err push.OutOfMemory) = Unit {0}
  IsAnswer p c b (Err push.Known) = IsBarred (barrier p.judge c.tree b) push.Known
  IsAnswer p c b (Err (push.Unlinkable previous)) = IsBarred (barrier p.judge c.tree b) (push.Unlinkable previous)
  IsAnswer p c b (Err push.BadRoot) = IsBarred (barrier p.judge c.tree b) push.BadRoot
  IsAnswer p c b (Err push.BadSlot) = IsBarred (barrier p.judge c.tree b) push.BadSlot
  IsAnswer p c b (Err push.BadProducer) = IsBarred (barrier p.judge c.tree b) push.BadProducer
  IsAnswer p c b (Err push.BadSeal) = IsBarred (barrier p.judge c.tree b) push.BadSeal
  IsAnswer p c b (Err (push.Invalid block code)) = Breaks p c b block code

  -- Accepted blocks, and those with a block that fails on their branch, are arrivals. Nothing else changes the choice.
  abbrev pub choice_after : Play W → Choice → Block → Result Pushed PushError → Choice
  choice_after p c b (Ok done) = arrived p c b
  choice_after p c b (Err e) = if is_invalid e then arrived p c b else c

  -- A push on a chain whose tables are the replays of the chosen branch: they are so again.
  pub record IsPushed (p : Play W) (b : Block) (old new : Standing W) (result : Result Pushed PushError) : Type 0 where
    pub answer : IsAnswer p old.choice b result
    pub choice : new.choice ≡ choice_after p old.choice b result
    pub tables : IsTabled p new

  -- A refused push leaves the old worlds, head and applied list, whatever the tables were.
  pub record IsRefused (rule : Option PushError) (b : Block) (e : PushError) (old new : Standing W) : Type 0 where
    pub cause : IsBarred rule e
    pub choice : new.choice ≡ refused_choice b e old.choice
    pub head : new.choice.tree.head ≡ old.choice.tree.head
    pub applied : new.choice.applied ≡ old.choice.applied
    pub stack : new.stack ≡ old.stack

-- the arrivals with this block, where it is one
abbrev pub with_arrival : List Block → Block → Result Pushed PushError → List Block
with_arrival bs b (Ok done) = bs ++ b ∷ []
with_arrival bs b (Err e) = if is_invalid e then bs ++ b ∷ [] else bs

-- ---- the parts of a push

-- a block that breaks no rule was added
pub record IsEntered (judge : Judge) (b : Block) (old new : Tree) : Type 0 where
  pub fits : refusal old b ≡ None
  pub sealed : is_sealed judge b ≡ true
  pub tree : new ≡ with_block b old
  pub small : block_num b.header.previous < 4294967295

-- or nothing was
pub record IsOut (judge : Judge) (b : Block) (e : PushError) (old new : Tree) : Type 0 where
  pub cause : IsBarred (barrier judge old b) e
  pub other : is_invalid e ≡ false
  pub tree : new ≡ old

abbrev pub Enters : Judge → Block → Tree → Tree → Result (List ℕ) PushError → Type 0
Enters judge b old new (Ok id) = (id ≡ id_of b) × IsEntered judge b old new
Enters judge b old new (Err e) = IsOut judge b e old new

module _ {W : Type 0} where
  -- what is left of the tree, the applied list and the machine where a branch is taken
  pub record IsTaken (id : List ℕ) (t t2 : Tree) (a a2 : List ChainHead) (s s2 : Stack W) (position : ℕ) : Type 0 where
    pub tree : t2 ≡ settled (with_head id t)
    pub applied : a2 ≡ a ++ record { num = block_num id; id = id } ∷ []
    pub place : position ≡ length a
    pub mid : Stack W
    pub replaced : IsReplaced (block_num id) s mid
    pub stack : s2 ≡ committed t2.irreversible mid

  -- where a block of it is dropped
  pub record IsGiven (id : List ℕ) (t t2 : Tree) (a a2 : List ChainHead) (s s2 : Stack W) : Type 0 where
    pub tree : t2 ≡ dropped id t
    pub applied : a2 ≡ a
    pub stack : s2 ≡ s

  abbrev pub Takes : List ℕ → Tree → Tree → List ChainHead → List ChainHead → Stack W → Stack W → Result ℕ BranchError → Type 0
  Takes id t t2 a a2 s s2 (Ok position) = IsTaken id t t2 a a2 s s2 position
  Takes id t t2 a a2 s s2 (Err failed.OutOfMemory) = IsGiven id t t2 a a2 s s2
  Takes id t t2 a a2 s s2 (Err (failed.Invalid block code)) =
      IsGiven block t t2 a a2 s s2 × IsBeside (branch t.head t.kept) (branch id t.kept) block
