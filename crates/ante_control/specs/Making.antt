-- The block that is being made, and the block that it becomes.
use Rattle.std.specs.Prelude.{◌≡◌, ℕ, ◌+◌, ◌<◌, nat_le, Bool, true, List, [], ◌∷◌, ◌++◌, length, replicate, Option, None, Some, IfSome}
use Rattle.ante_pack.specs.declared.names.Name.{Name}
use Rattle.ante_types.specs.declared.chain.Block.{Block}
use Rattle.ante_types.specs.declared.chain.BlockInfo.{BlockInfo}
use Rattle.ante_types.specs.declared.chain.Header.{Header}
use Rattle.ante_types.specs.declared.chain.Receipt.{Receipt}
use Rattle.ante_types.specs.declared.failure.Failure.{Failure}
use Rattle.ante_types.specs.declared.trace.Trace.{Trace}
use Rattle.ante_types.specs.Chain.{block}
use Rattle.ante_types.specs.Ids.{block_id, block_num, trx_root}
use Rattle.ante_verdicts.specs.Judge.{Judge}
use Rattle.ante_machine.specs.Stacks.{Pending}
use Rattle.ante_machine.specs.Steps.{Steps}
use Rattle.ante_fork.specs.Rules.{producer_at}
use Rattle.ante_fork.specs.Tree.{Tree, block_at}

-- what it was begun with, its receipts so far, and the world after them
pub record Making (W : Type 0) : Type 0 where
  pub info : BlockInfo
  pub receipts : List Receipt
  pub world : W

abbrev pub receipt_of : (steps : ℕ) → (packed : List ℕ) → (signatures : List (List ℕ)) → Receipt
receipt_of steps packed signatures = record { steps = steps; packed = packed; signatures = signatures }

-- ---- the bytes of a block

abbrev pub most_block_bytes : ℕ
most_block_bytes = 2000000

-- a block of these receipts with the longest seal; each header takes as many bytes
abbrev pub roomy_block : List Receipt → Block
roomy_block receipts = record {
  header = record { slot = 0; producer = record { 0 = 0 }; previous = replicate 32 0; trx_root = replicate 32 0 };
  seal = replicate 256 0;
  receipts = receipts;
}

-- A receipt of this transaction fits, or is the first.
abbrev pub has_room : List Receipt → (packed : List ℕ) → (signatures : List (List ℕ)) → Bool
has_room [] packed signatures = true
has_room (r ∷ rs) packed signatures =
    nat_le (length (block.spell (roomy_block (r ∷ rs ++ receipt_of 0 packed signatures ∷ [])))) most_block_bytes

-- ---- the block

abbrev pub begun_with : Tree → (slot : ℕ) → Name → BlockInfo
begun_with t slot producer = record { num = block_num t.head + 1; slot = slot; producer = producer; previous = t.head }

abbrev pub made_header : BlockInfo → List Receipt → Header
made_header info receipts =
    record { slot = info.slot; producer = info.producer; previous = info.previous; trx_root = trx_root receipts }

abbrev pub sealed_block : Judge → BlockInfo → List Receipt → Block
sealed_block judge info receipts = record {
  header = made_header info receipts;
  seal = judge.seals info.producer.0 (block_id (made_header info receipts));
  receipts = receipts;
}

-- a slot above the head's, of its producer
pub record IsTurn (t : Tree) (slot : ℕ) (producer : Name) : Type 0 where
  pub small : block_num t.head < 4294967295
  pub later : IfSome (block_at t.head t) (λ b. b.header.slot < slot)
  pub turn : producer ≡ producer_at t.producers slot

module _ {W : Type 0} where
  -- nothing but its beginning, upon a world
  abbrev pub begun_block : Steps W → (chain : List ℕ) → W → BlockInfo → Making W
  begun_block steps chain w info = record { info = info; receipts = []; world = steps.begin chain w info }

  -- a transaction on its world
  abbrev pub run_in : Steps W → (chain : List ℕ) → Judge → (packed : List ℕ) → (signatures : List (List ℕ)) → Making W → W × Trace
  run_in steps chain judge packed signatures m = steps.trx chain judge m.world m.info packed signatures

-- a transaction that succeeded leaves a receipt
abbrev pub with_receipt : Option Failure → Receipt → List Receipt → List Receipt
with_receipt None r receipts = receipts ++ r ∷ []
with_receipt (Some f) r receipts = receipts

module _ {W : Type 0} where
  abbrev pub with_trx : (packed : List ℕ) → (signatures : List (List ℕ)) → W × Trace → Making W → Making W
  with_trx packed signatures done m = record {
    info = m.info;
    receipts = with_receipt done.1.failure (receipt_of done.1.steps packed signatures) m.receipts;
    world = done.0;
  }

-- the trace at a place of the applied list
abbrev pub placed_at : ℕ → Trace → Trace
placed_at position trace = record {
  position = position;
  head = trace.head;
  id = trace.id;
  failure = trace.failure;
  steps = trace.steps;
  actions = trace.actions;
}

-- What a transaction leaves of the machine's pending block and of the receipts beside it.
pub record IsRun {W : Type 0} (packed : List ℕ) (signatures : List (List ℕ)) (p : Pending W) (done : W × Trace) (answer : Trace) (after : Option (Pending W)) (old new : List Receipt) : Type 0 where
  pub trace : answer ≡ done.1
  pub pending : after ≡ Some (record { info = p.info; world = done.0 })
  pub receipts : new ≡ with_receipt done.1.failure (receipt_of done.1.steps packed signatures) old
