-- What the parts of a native action answer: what the definition says, or want of memory, of which nothing is said.
use Rattle.std.specs.Prelude.{◌≡◌, Option, None, Some, Result, Ok, Err}
use Rattle.ante_pack.specs.declared.fault.PackFault.{PackFault}
use Rattle.ante_pack.specs.declared.fault.ReadFault.{ReadFault}
use Rattle.ante_pack.specs.declared.fault.ReadFault.TheVariants as read
use Rattle.ante_types.specs.declared.failure.Failure.{Failure}
use Rattle.ante_types.specs.declared.failure.Failure.TheVariants as failure
use Rattle.ante_types.specs.World.{World}
use Rattle.ante_calls.specs.Authorization.{place_of}
use Rattle.ante_execution.specs.declared.ends.NativeFault.{NativeFault}
use Rattle.ante_execution.specs.declared.ends.NativeFault.TheVariants as native

-- a check gave this refusal, or none
abbrev pub Passes : Option Failure → Result (Unit {0}) NativeFault → Type 0
Passes refusal (Ok done) = refusal ≡ None
Passes refusal (Err native.OutOfMemory) = Unit {0}
Passes refusal (Err (native.Failed f)) = refusal ≡ Some f

-- changes left this state, or failed so
abbrev pub Does : Result World Failure → Result (Unit {0}) NativeFault → World → Type 0
Does does (Ok done) w = does ≡ Ok w
Does does (Err native.OutOfMemory) w = Unit {0}
Does does (Err (native.Failed f)) w = does ≡ Err f

-- the data, or its first fault
abbrev pub Reads : {D X : Type 0} → (X → D) → Result D PackFault → Result X ReadFault → Type 0
Reads meant given (Ok x) = given ≡ Ok (meant x)
Reads meant given (Err read.OutOfMemory) = Unit {0}
Reads meant given (Err (read.Pack fault)) = given ≡ Err fault

-- what an action fails with whose data can't be read
abbrev pub data_fault : ReadFault → NativeFault
data_fault read.OutOfMemory = native.OutOfMemory
data_fault (read.Pack fault) = native.Failed (failure.DataFault (place_of fault))
