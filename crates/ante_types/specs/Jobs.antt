-- A transaction with the bytes that it is read from.
use Rattle.std.specs.Prelude.{ℕ, List, Result, Ok}
use Rattle.ante_pack.specs.declared.fault.PackFault.{PackFault}
use Rattle.ante_pack.specs.Forms.{◌>>=◌, whole}
use Rattle.ante_types.specs.declared.chain.Transaction.{Transaction}
use Rattle.ante_types.specs.Chain.{transaction}

pub record Job : Type 0 where
  pub packed : List ℕ
  pub trx : Transaction

-- the bytes as a job: their one transaction, or the first fault
abbrev pub job_of : List ℕ → Result Job PackFault
job_of packed = whole transaction packed >>= λ trx. Ok (record { packed = packed; trx = trx })
