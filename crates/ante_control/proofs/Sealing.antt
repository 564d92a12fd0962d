-- The pending block as it grows, and the block that it becomes.
use Rattle.std.proofs.Common.{◌≡◌, ℕ, ◌+◌, ◌==◌, Bool, true, false, List, [], ◌∷◌, ◌++◌, None, Result, Ok, Err, refl, ap, ◌∙◌, if◌then◌else◌}
use Rattle.ante_pack.specs.Forms.{whole}
use Rattle.ante_types.specs.Chain.{transaction}
use Rattle.ante_types.specs.declared.chain.Block.{Block}
use Rattle.ante_types.specs.declared.chain.BlockInfo.{BlockInfo}
use Rattle.ante_types.specs.declared.chain.Receipt.{Receipt}
use Rattle.ante_types.specs.declared.chain.Transaction.{Transaction}
use Rattle.ante_types.specs.declared.failure.Failure.TheVariants as failure
use Rattle.ante_types.specs.declared.trace.Trace.{Trace}
use Rattle.ante_types.specs.Failures.{failure_code}
use Rattle.ante_types.specs.Ids.{block_num, block_id}
use Rattle.ante_verdicts.specs.Judge.{Judge}
use Rattle.ante_machine.specs.Steps.{Steps, info_of, succeeds, receipt_runs, receipts_run, block_runs, onward}

module _ {W : Type 0} where
  -- one receipt
  abbrev pub one_runs : Steps W → List ℕ → Judge → BlockInfo → Receipt → W → Result W ℕ
  one_runs s chain judge info r w = receipt_runs s chain judge info r (whole transaction r.packed) w

  onward_on : (s : Steps W) (chain : List ℕ) (judge : Judge) (info : BlockInfo) (rs : List Receipt) (r : Receipt) →
      ((w : W) → receipts_run s chain judge info (rs ++ r ∷ []) w ≡ onward (one_runs s chain judge info r) (receipts_run s chain judge info rs w)) →
      (o : Result W ℕ) → onward (receipts_run s chain judge info (rs ++ r ∷ [])) o ≡ onward (one_runs s chain judge info r) (onward (receipts_run s chain judge info rs) o)
  onward_on s chain judge info rs r ih (Ok w) = ih w
  onward_on s chain judge info rs r ih (Err e) = refl

  last_end : (s : Steps W) (chain : List ℕ) (judge : Judge) (info : BlockInfo) (o : Result W ℕ) → onward (receipts_run s chain judge info []) o ≡ o
  unfolding receipts_run
  last_end s chain judge info (Ok w) = refl
  last_end s chain judge info (Err e) = refl

  -- one receipt more
  pub receipts_snoc : (s : Steps W) (chain : List ℕ) (judge : Judge) (info : BlockInfo) (rs : List Receipt) (r : Receipt) (w : W) →
      receipts_run s chain judge info (rs ++ r ∷ []) w ≡ onward (one_runs s chain judge info r) (receipts_run s chain judge info rs w)
  unfolding receipts_run
  receipts_snoc s chain judge info [] r w = last_end s chain judge info (one_runs s chain judge info r w)
  receipts_snoc s chain judge info (x ∷ rs) r w = onward_on s chain judge info rs r (receipts_snoc s chain judge info rs r) (one_runs s chain judge info x w)

  ok_by : (w : W) (o : Result W ℕ) (t : Bool) → t ≡ true → (if t then Ok w else o) ≡ Ok w
  ok_by w o true e = refl
  ok_by w o false e = cc

  -- a transaction that succeeded, with its steps, is a receipt that runs
  pub trx_runs : (s : Steps W) (chain : List ℕ) (judge : Judge) (info : BlockInfo) (w : W) (r : Receipt) (t : Transaction) → whole transaction r.packed ≡ Ok t →
      (s.trx chain judge w info r.packed r.signatures).1.failure ≡ None → ((s.trx chain judge w info r.packed r.signatures).1.steps == r.steps) ≡ true →
      one_runs s chain judge info r w ≡ Ok (s.trx chain judge w info r.packed r.signatures).0
  trx_runs s chain judge info w r t reads fine steps =
      let done : W × Trace = s.trx chain judge w info r.packed r.signatures in
      ap (λ x. receipt_runs s chain judge info r x w) reads ∙ ap (λ f. succeeds r.steps f done) fine ∙ ok_by done.0 (Err (failure_code failure.WrongSteps)) (done.1.steps == r.steps) steps

  pub pending_more : (s : Steps W) (chain : List ℕ) (judge : Judge) (info : BlockInfo) (rs : List Receipt) (r : Receipt) (w v v2 : W) → receipts_run s chain judge info rs w ≡ Ok v →
      one_runs s chain judge info r v ≡ Ok v2 → receipts_run s chain judge info (rs ++ r ∷ []) w ≡ Ok v2
  pending_more s chain judge info rs r w v v2 e f = receipts_snoc s chain judge info rs r w ∙ ap (onward (one_runs s chain judge info r)) e ∙ f

  -- the sealed block runs to the world that `finish` gave
  pub sealed_runs : (s : Steps W) (chain : List ℕ) (judge : Judge) (b : Block) (w v : W) → receipts_run s chain judge (info_of b.header) b.receipts (s.begin chain w (info_of b.header)) ≡ Ok v →
      block_runs s chain judge w b ≡ Ok (s.finish chain v (block_num b.header.previous + 1) (block_id b.header))
  unfolding block_runs
  sealed_runs s chain judge b w v e = ap (onward (λ last. Ok (s.finish chain last (block_num b.header.previous + 1) (block_id b.header)))) e
