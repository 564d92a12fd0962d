-- A transaction by its bytes, and what its actions come to before the state remembers it.
use Rattle.std.specs.Prelude.{◌≡◌, ◌⊎◌, ℕ, List, [], Option, None, Some, Result, Ok, Err}
use Rattle.ante_pack.specs.declared.fault.PackFault.{PackFault}
use Rattle.ante_pack.specs.Forms.{whole}
use Rattle.ante_types.specs.Chain.{transaction}
use Rattle.ante_types.specs.declared.chain.BlockInfo.{BlockInfo}
use Rattle.ante_types.specs.declared.chain.Transaction.{Transaction}
use Rattle.ante_types.specs.declared.failure.Failure.{Failure}
use Rattle.ante_types.specs.declared.failure.Failure.TheVariants as failure
use Rattle.ante_types.specs.declared.trace.ActionTrace.{ActionTrace}
use Rattle.ante_types.specs.World.{World}
use Rattle.ante_execution.specs.Actions.{Going, Failed}
use Rattle.ante_execution.specs.Runs.{Codes}
use Rattle.ante_execution.specs.Transactions.{Done, Recovers, head_of, memory_refusal, trace_with, transact}
use Rattle.ante_apply.specs.Going.{going}

-- bytes that don't read as a transaction fail as their first field does
abbrev pub unread : BlockInfo → World → (packed : List ℕ) → Done
unread info w packed = record { trace = trace_with 0 (head_of info) packed (Some (failure.DataFault 0)) 0 []; world = w }

module _ (codes : Codes) (recovers : Recovers) (chain_id : List ℕ) (info : BlockInfo) (w : World) (packed : List ℕ) (signatures : List (List ℕ)) where
  abbrev pub transact_read : Result Transaction PackFault → Done
  transact_read (Err fault) = unread info w packed
  transact_read (Ok t) = transact codes recovers chain_id info w t packed signatures

  abbrev pub transact_packed : Done
  transact_packed = transact_read (whole transaction packed)

-- The actions failed so, or used too much memory; or they left this state.
module _ (actions : Result Going Failed) (old : World) where
  abbrev pub ActsTo : Option Failure → World → (left : ℕ) → List ActionTrace → Type 0
  ActsTo None w left traces = (looks : ℕ) × (actions ≡ Ok (going w left traces looks)) × (memory_refusal old w ≡ None)
  ActsTo (Some f) w left traces =
      ((looks : ℕ) × (actions ≡ Err (record { failure = f; left = left; traces = traces; looks = looks })))
      ⊎ ((looks : ℕ) × (actions ≡ Ok (going w left traces looks)) × (memory_refusal old w ≡ Some f))
