-- A transaction by its bytes, once they are read and all is checked.
use Rattle.std.proofs.Common.{◌≡◌, ℕ, List, [], None, Some, Ok, ap, ◌∙◌}
use Rattle.ante_pack.specs.Forms.{whole}
use Rattle.ante_types.specs.Chain.{transaction}
use Rattle.ante_types.specs.declared.chain.BlockInfo.{BlockInfo}
use Rattle.ante_types.specs.declared.chain.Transaction.{Transaction}
use Rattle.ante_types.specs.declared.failure.Failure.{Failure}
use Rattle.ante_types.specs.World.{World}
use Rattle.ante_execution.specs.Runs.{Codes}
use Rattle.ante_execution.specs.Transactions.{Done, Recovers, head_of, trace_with, transact, transacted, transaction_refusal}
use Rattle.ante_transactions.specs.Transacting.{transact_packed, transact_read}

module _ (codes : Codes) (recovers : Recovers) (chain_id : List ℕ) (info : BlockInfo) (w : World) (packed : List ℕ) (signatures : List (List ℕ)) (t : Transaction)
    (reads : whole transaction packed ≡ Ok t) where
  abbrev all : Done
  all = transact_packed codes recovers chain_id info w packed signatures

  read_so : all ≡ transact codes recovers chain_id info w t packed signatures
  read_so = ap (transact_read codes recovers chain_id info w packed signatures) reads

  pub refused : (f : Failure) → transaction_refusal recovers chain_id w info.slot t packed signatures ≡ Some f →
      all ≡ record { trace = trace_with 0 (head_of info) packed (Some f) 0 []; world = w }
  unfolding transact
  refused f is = read_so ∙ ap (λ o. transacted codes o info w t packed) is

  pub allowed : transaction_refusal recovers chain_id w info.slot t packed signatures ≡ None → all ≡ transacted codes None info w t packed
  unfolding transact
  allowed is = read_so ∙ ap (λ o. transacted codes o info w t packed) is
