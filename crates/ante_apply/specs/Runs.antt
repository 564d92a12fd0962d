-- What the code of one run answers.
use Rattle.std.specs.Prelude.{◌≡◌, ℕ, Bool, Option, None, Some, Result, Ok, Err}
use Rattle.std.specs.declared.alloc.AllocError.{AllocError}
use Rattle.ante_types.specs.World.{World}
use Rattle.ante_types.specs.declared.context.RunContext.{RunContext}
use Rattle.ante_types.specs.declared.failure.Failure.{Failure}
use Rattle.ante_wmeaning.specs.declared.ends.RunEnd.{RunEnd}
use Rattle.ante_wmeaning.specs.declared.ends.RunEnd.TheVariants as end
use Rattle.ante_calls.specs.Views.{Seen}
use Rattle.ante_execution.specs.Codes.{failure_of}
use Rattle.ante_execution.specs.Runs.{Ran}
use Rattle.ante_host.specs.Code.{CameOut}
pub use Rattle.ante_host.specs.Code.{seen}
use Rattle.ante_execution.specs.declared.ends.ApplyEnd.{ApplyEnd}
use Rattle.ante_execution.specs.declared.ends.ApplyEnd.TheVariants as ends
use Rattle.ante_execution.specs.declared.ends.NativeFault.{NativeFault}
use Rattle.ante_execution.specs.declared.ends.NativeFault.TheVariants as native

-- it is this failure, or wants memory
abbrev pub Shows : Option Failure → Result (Option Failure) ApplyEnd → Type 0
Shows failure (Ok f) = f ≡ failure
Shows failure (Err ends.OutOfMemory) = Unit {0}
Shows failure (Err (ends.Failed f)) = ⊥
Shows failure (Err (ends.Cut at)) = ⊥

-- how the interpreter's end shows: as the failure of the run, or as a cut
abbrev pub ShowsEnd : RunEnd Failure → Result (Option Failure) ApplyEnd → Type 0
ShowsEnd (end.Cut at) result = result ≡ Err (ends.Cut at)
ShowsEnd end.Done result = Shows (failure_of end.Done) result
ShowsEnd end.Exit result = Shows (failure_of end.Exit) result
ShowsEnd (end.Trap kind) result = Shows (failure_of (end.Trap kind)) result
ShowsEnd end.StepLimit result = Shows (failure_of end.StepLimit) result
ShowsEnd end.CallDepth result = Shows (failure_of end.CallDepth) result
ShowsEnd (end.Refused f) result = Shows (failure_of (end.Refused f)) result

-- what a run of code came to, by how the interpreter ended
abbrev pub EndedAs : Result (RunEnd Failure) AllocError → RunContext → Result (Option Failure × RunContext) ApplyEnd → Type 0
EndedAs (Err e) run result = result ≡ Err ends.OutOfMemory
EndedAs (Ok e) run (Ok ended) = ShowsEnd e (Ok ended.0) × (ended.1 ≡ run)
EndedAs (Ok e) run (Err f) = ShowsEnd e (Err f)

-- how the answer of native actions shows
abbrev pub ShowsNative : Result Bool NativeFault → Result (Option Failure) ApplyEnd → Type 0
ShowsNative (Ok done) result = result ≡ Ok None
ShowsNative (Err (native.Failed f)) result = result ≡ Ok (Some f)
ShowsNative (Err native.OutOfMemory) result = result ≡ Err ends.OutOfMemory

-- the native action left this state, or failed so
abbrev pub NativelyDoes : Result World Failure → Result (Option Failure) ApplyEnd → World → Type 0
NativelyDoes does (Ok None) w = does ≡ Ok w
NativelyDoes does (Ok (Some f)) w = does ≡ Err f
NativelyDoes does (Err ends.OutOfMemory) w = Unit {0}
NativelyDoes does (Err (ends.Failed f)) w = ⊥
NativelyDoes does (Err (ends.Cut at)) w = ⊥

module _ (ran : Ran) (old new : Option ℕ) where
  -- the run came out so, and of what is seen then the state and the run's context are these
  abbrev pub Leads : Option Failure → World → RunContext → (left : ℕ) → Type 0
  Leads failure w run left = (s : Seen) × (s.world ≡ w) × (s.run ≡ run) × CameOut ran old new failure s left

  -- of a run that came to no end nothing is said
  abbrev pub RunsTo : Result (Option Failure × RunContext) ApplyEnd → World → (left : ℕ) → Type 0
  RunsTo (Ok ended) w left = Leads ended.0 w ended.1 left
  RunsTo (Err ends.OutOfMemory) w left = Unit {0}
  RunsTo (Err (ends.Cut at)) w left = Unit {0}
  RunsTo (Err (ends.Failed f)) w left = ⊥
