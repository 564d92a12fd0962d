-- What the code of each layer answers: what the definition says, or want of memory, or that it was asked to stop, of which nothing is said.
use Rattle.std.specs.Prelude.{◌≡◌, ℕ, Bool, true, false, Option, None, Some, Result, Ok, Err}
use Rattle.ante_types.specs.declared.failure.Failure.{Failure}
use Rattle.ante_types.specs.declared.failure.Failure.TheVariants as failure
use Rattle.ante_base.specs.Stops.{Rises}
use Rattle.ante_port.specs.declared.ReadEnd.{ReadEnd}
use Rattle.ante_port.specs.declared.ReadEnd.TheVariants as read
use Rattle.std.specs.declared.alloc.AllocError.{AllocError}
use Rattle.ante_types.specs.declared.trace.Trace.{Trace}
use Rattle.ante_types.specs.World.{World}
use Rattle.ante_execution.specs.Transactions.{Done}
use Rattle.ante_execution.specs.declared.ends.AuthFault.{AuthFault}
use Rattle.ante_execution.specs.declared.ends.AuthFault.TheVariants as auth
use Rattle.ante_execution.specs.declared.ends.GenesisFault.{GenesisFault}
use Rattle.ante_execution.specs.declared.ends.GenesisFault.TheVariants as genesis
use Rattle.ante_execution.specs.declared.ends.NativeFault.{NativeFault}
use Rattle.ante_execution.specs.declared.ends.NativeFault.TheVariants as native

-- the check of an action gave this refusal, or none
abbrev pub Checks : Option Failure → Result (Unit {0}) AuthFault → Type 0
Checks refusal (Ok done) = refusal ≡ None
Checks refusal (Err auth.OutOfMemory) = Unit {0}
Checks refusal (Err (auth.UnknownAccount name)) = refusal ≡ Some (failure.UnknownAccount name)
Checks refusal (Err (auth.MissingAuth level)) = refusal ≡ Some (failure.MissingAuth level.actor level.permission)
Checks refusal (Err (auth.Irrelevant level)) = refusal ≡ Some (failure.Irrelevant level.actor level.permission)
Checks refusal (Err auth.AuthWork) = refusal ≡ Some failure.AuthWork

-- the native action, if the run has one, left this state or failed so
abbrev pub DoesNative : Option (Result World Failure) → Result Bool NativeFault → World → Type 0
DoesNative does (Ok true) w = does ≡ Some (Ok w)
DoesNative does (Ok false) w = does ≡ None
DoesNative does (Err native.OutOfMemory) w = Unit {0}
DoesNative does (Err (native.Failed f)) w = does ≡ Some (Err f)

-- a genesis has this first fault, or none
abbrev pub ChecksGenesis : Option GenesisFault → Result (Unit {0}) GenesisFault → Type 0
ChecksGenesis fault (Ok done) = fault ≡ None
ChecksGenesis fault (Err genesis.OutOfMemory) = Unit {0}
ChecksGenesis fault (Err (genesis.Version found)) = fault ≡ Some (genesis.Version found)
ChecksGenesis fault (Err genesis.Producers) = fault ≡ Some genesis.Producers
ChecksGenesis fault (Err genesis.AccountOrder) = fault ≡ Some genesis.AccountOrder
ChecksGenesis fault (Err genesis.NoSystem) = fault ≡ Some genesis.NoSystem
ChecksGenesis fault (Err (genesis.BadAuthority account)) = fault ≡ Some (genesis.BadAuthority account)
ChecksGenesis fault (Err (genesis.BadCode account)) = fault ≡ Some (genesis.BadCode account)

-- a read-only transaction gave this trace, and the stop's count rose by so many looks
abbrev pub ReadsOnly : Trace → (looks : ℕ) → Result (ReadEnd Trace) AllocError → (old new : Option ℕ) → Type 0
ReadsOnly trace looks (Ok (read.Done t)) old new = (t ≡ trace) × Rises looks old new
ReadsOnly trace looks (Ok (read.Cut at)) old new = Unit {0}
ReadsOnly trace looks (Err e) old new = Unit {0}

-- a transaction gave its trace, and left the state that it leaves
abbrev pub Transacts : Done → Result Trace AllocError → World → Type 0
Transacts done (Ok t) w = (t ≡ done.trace) × (w ≡ done.world)
Transacts done (Err e) w = Unit {0}
