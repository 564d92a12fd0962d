-- What an engine does to a world, and what a block does, over that.
use Rattle.std.specs.Prelude.{◌≡◌, ℕ, ◌+◌, ◌==◌, ◌<◌, ◌≤◌, if◌then◌else◌, List, [], ◌∷◌, length, Option, Some, None, Result, Ok, Err, OnSome}
use Rattle.ante_pack.specs.declared.fault.PackFault.{PackFault}
use Rattle.ante_pack.specs.Forms.{whole, list_of, string}
use Rattle.ante_types.specs.declared.chain.Block.{Block}
use Rattle.ante_types.specs.declared.chain.BlockInfo.{BlockInfo}
use Rattle.ante_types.specs.declared.chain.Header.{Header}
use Rattle.ante_types.specs.declared.chain.Receipt.{Receipt}
use Rattle.ante_types.specs.declared.chain.Transaction.{Transaction}
use Rattle.ante_types.specs.declared.trace.Trace.{Trace}
use Rattle.ante_types.specs.declared.failure.Failure.{Failure}
use Rattle.ante_types.specs.declared.failure.Failure.TheVariants as failure
use Rattle.ante_types.specs.Chain.{transaction}
use Rattle.ante_types.specs.Failures.{failure_code}
use Rattle.ante_types.specs.Ids.{block_id, block_num}
use Rattle.ante_types.specs.Limits.{most_transaction_bytes}
use Rattle.ante_verdicts.specs.Judge.{Judge}

-- Functions over a chain id and a world: the beginning of a block; a transaction of it, by its packed bytes and signatures,
-- which gives a world and a trace; the end of the block of a number and an id.
pub record Steps (W : Type 0) : Type 0 where
  pub begin : (chain : List ℕ) → W → BlockInfo → W
  pub trx : (chain : List ℕ) → Judge → W → BlockInfo → (packed : List ℕ) → (signatures : List (List ℕ)) → W × Trace
  pub finish : (chain : List ℕ) → W → (num : ℕ) → (id : List ℕ) → W

-- What is true of a transaction: its steps fit in a receipt. Where it fails it changes nothing, and where it doesn't it is small.
pub record IsSoundTrx {W : Type 0} (old : W) (packed : List ℕ) (signatures : List (List ℕ)) (done : W × Trace) : Type 0 where
  pub steps : done.1.steps < 4294967296
  pub failed : OnSome done.1.failure (done.0 ≡ old)
  pub small : done.1.failure ≡ None → length packed + length ((list_of string).spell signatures) ≤ most_transaction_bytes

-- what the block of a header is begun with
abbrev pub info_of : Header → BlockInfo
info_of h = record { num = block_num h.previous + 1; slot = h.slot; producer = h.producer; previous = h.previous }

module _ {W : Type 0} where
  abbrev pub onward : {A E : Type 0} → (W → Result A E) → Result W E → Result A E
  onward f (Ok w) = f w
  onward f (Err e) = Err e

  -- the transaction must succeed, with the steps that the receipt says
  abbrev pub succeeds : (steps : ℕ) → Option Failure → W × Trace → Result W ℕ
  succeeds steps (Some f) done = Err (failure_code f)
  succeeds steps None done = if done.1.steps == steps then Ok done.0 else Err (failure_code failure.WrongSteps)

  module _ (s : Steps W) (chain : List ℕ) (judge : Judge) (info : BlockInfo) where
    -- A receipt that doesn't read is found in its turn.
    abbrev pub receipt_runs : Receipt → Result Transaction PackFault → W → Result W ℕ
    receipt_runs r (Err fault) w = Err (failure_code (failure.DataFault 0))
    receipt_runs r (Ok t) w =
        let done : W × Trace = s.trx chain judge w info r.packed r.signatures in succeeds r.steps done.1.failure done

    unfoldable pub receipts_run : List Receipt → W → Result W ℕ
    receipts_run [] w = Ok w
    receipts_run (r ∷ receipts) w = onward (receipts_run receipts) (receipt_runs r (whole transaction r.packed) w)

  -- The world after a block, or the number of its first failure: its beginning, its receipts in order, its end.
  unfoldable pub block_runs : Steps W → (chain : List ℕ) → Judge → W → Block → Result W ℕ
  block_runs s chain judge w b =
      onward (λ last. Ok (s.finish chain last (block_num b.header.previous + 1) (block_id b.header)))
      (receipts_run s chain judge (info_of b.header) b.receipts (s.begin chain w (info_of b.header)))
