-- Transactions are sound: their steps fit in a receipt, one that fails changes nothing, and one that doesn't is small.
use Rattle.std.proofs.Common.{◌≡◌, ℕ, ◌+◌, ◌-◌, ◌==◌, ◌<◌, ◌≤◌, nat_lt, Bool, true, false, not, List, [], ◌∷◌, length, Option, None, Some, OnSome, Result, Ok, Err, if◌then◌else◌, refl, arith}
use Rattle.std.proofs.lemmas.Bool.Decides.{nat_tests}
use Rattle.std.specs.Option.{option_or}
use Rattle.sha2.specs.Sha256.{sha256}
use Rattle.ante_pack.specs.declared.fault.PackFault.{PackFault}
use Rattle.ante_pack.specs.Forms.{list_of, string, whole}
use Rattle.ante_types.specs.declared.chain.BlockInfo.{BlockInfo}
use Rattle.ante_types.specs.declared.chain.Transaction.{Transaction}
use Rattle.ante_types.specs.declared.failure.Failure.{Failure}
use Rattle.ante_types.specs.Chain.{transaction}
use Rattle.ante_types.specs.Ids.{signing_digest}
use Rattle.ante_types.specs.Limits.{most_transaction_bytes, most_transaction_steps}
use Rattle.ante_types.specs.World.{World}
use Rattle.ante_execution.specs.Actions.{Going, Failed, apply_all}
use Rattle.ante_execution.specs.Runs.{Codes}
use Rattle.ante_execution.specs.Transactions.{Done, Recovers, acted, authority_refusal, finished, form_refusal, fresh, head_of, keys_from, memory_refusal, packed_size, refused_as, standing_refusal, transact, transacted, transaction_refusal, writing_scene}
use Rattle.ante_checks.specs.Small.{small_form}
use Rattle.ante_machine.specs.Steps.{IsSoundTrx}
use Rattle.ante_engine.specs.Steps.{both_of}
use Rattle.ante_transactions.specs.Transacting.{transact_read, unread}

-- ---- a transaction that nothing is against is small

first_allows : (a b : Option Failure) → option_or a b ≡ None → a ≡ None
first_allows None b none = refl
first_allows (Some f) b none = cc

module _ (codes : Codes) (recovers : Recovers) (chain : List ℕ) (info : BlockInfo) (w : World) (packed : List ℕ) (signatures : List (List ℕ)) where
  abbrev size : ℕ
  size = packed_size packed signatures

  small : (t : Transaction) → transaction_refusal recovers chain w info.slot t packed signatures ≡ None → size ≤ most_transaction_bytes
  unfolding transaction_refusal
  small t none = small_form size t (first_allows (form_refusal size t)
      (option_or (standing_refusal w info.slot t (sha256 packed)) (authority_refusal w t.actions (keys_from recovers (signing_digest chain packed) 0 signatures))) none)

  -- ---- each way in which it ends

  fails : (t : Transaction) (f : Failure) (left : ℕ) (traces : _) → IsSoundTrx w packed signatures (both_of (refused_as (head_of info) t packed w f left traces))
  fails t f left traces = record { steps = omega arith; failed = refl; small = λ none. cc }

  by_memory : (t : Transaction) (m : Option Failure) (g : Going) → size ≤ most_transaction_bytes →
      IsSoundTrx w packed signatures (both_of (finished (head_of info) t packed w m g))
  by_memory t (Some f) g fits = fails t f g.left g.traces
  by_memory t None g fits = record { steps = omega arith; failed = tt; small = λ none. fits }

  by_actions : (t : Transaction) (d : Result Going Failed) → size ≤ most_transaction_bytes → IsSoundTrx w packed signatures (both_of (acted (head_of info) t packed w d))
  by_actions t (Err e) fits = fails t e.failure e.left e.traces
  by_actions t (Ok g) fits = by_memory t (memory_refusal w g.world) g fits

  by_refusal : (t : Transaction) (o : Option Failure) → (o ≡ None → size ≤ most_transaction_bytes) → IsSoundTrx w packed signatures (both_of (transacted codes o info w t packed))
  by_refusal t (Some f) fits = fails t f most_transaction_steps []
  by_refusal t None fits = by_actions t (apply_all codes (writing_scene info.slot packed) t.actions (fresh w)) (fits refl)

  by_reading : (r : Result Transaction PackFault) → IsSoundTrx w packed signatures (both_of (transact_read codes recovers chain info w packed signatures r))
  unfolding transact
  by_reading (Err fault) = record { steps = omega arith; failed = refl; small = λ none. cc }
  by_reading (Ok t) = by_refusal t (transaction_refusal recovers chain w info.slot t packed signatures) (small t)

  pub sound_transactions : IsSoundTrx w packed signatures (both_of (transact_read codes recovers chain info w packed signatures (whole transaction packed)))
  sound_transactions = by_reading (whole transaction packed)
