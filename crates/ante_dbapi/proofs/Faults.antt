-- A call is refused where what it does first is refused.
use Rattle.std.proofs.Common.{◌≡◌, Result, Err, ap}
use Rattle.ante_calls.specs.declared.faults.DbFault.{DbFault}
use Rattle.ante_calls.specs.declared.faults.DbFault.TheVariants as fault
use Rattle.ante_calls.specs.RowAnswers.{IsFaultOf}
use Rattle.ante_calls.specs.Rows.{then_do}

module _ {X : Type 0} where
  pub fault_is : (f : DbFault) (r : Result X DbFault) → r ≡ Err f → IsFaultOf r f
  fault_is fault.OutOfMemory r h = tt
  fault_is (fault.BadIterator it) r h = h
  fault_is (fault.KeyExists primary) r h = h
  fault_is (fault.NotOwner code) r h = h
  fault_is (fault.BadPayer account) r h = h
  fault_is (fault.UnknownAccount name) r h = h
  fault_is fault.WriteRefused r h = h
  fault_is fault.RamTotal r h = h

  module _ {Y : Type 0} where
    pub fault_goes_on : (f : DbFault) (r : Result X DbFault) (go : X → Result Y DbFault) → IsFaultOf r f → IsFaultOf (then_do r go) f
    fault_goes_on fault.OutOfMemory r go h = tt
    fault_goes_on (fault.BadIterator it) r go h = ap (λ r. then_do r go) h
    fault_goes_on (fault.KeyExists primary) r go h = ap (λ r. then_do r go) h
    fault_goes_on (fault.NotOwner code) r go h = ap (λ r. then_do r go) h
    fault_goes_on (fault.BadPayer account) r go h = ap (λ r. then_do r go) h
    fault_goes_on (fault.UnknownAccount name) r go h = ap (λ r. then_do r go) h
    fault_goes_on fault.WriteRefused r go h = ap (λ r. then_do r go) h
    fault_goes_on fault.RamTotal r go h = ap (λ r. then_do r go) h
