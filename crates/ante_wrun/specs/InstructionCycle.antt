-- What the parts of one turn of the machine's loop answer.
use Rattle.std.specs.Prelude.{◌≡◌, ℕ, suc, length, true, false, Bool, List, Option, None, Some, Result, Ok, Err}
use Rattle.std.specs.declared.alloc.AllocError.{AllocError}
use Rattle.ante_wmem.specs.HostCalls.{HostMeaning}
use Rattle.ante_wtree.specs.declared.modules.FuncType.{FuncType}
use Rattle.ante_wtree.specs.Types.{masked}
use Rattle.ante_wmeaning.specs.declared.ends.RunEnd.{RunEnd}
use Rattle.ante_wrun.specs.declared.thread.Thread.{Thread}
use Rattle.ante_wrun.specs.declared.run.Paid.{Paid}
use Rattle.ante_wrun.specs.declared.run.Paid.TheVariants as paid
use Rattle.ante_wrun.specs.declared.run.HostNext.{HostNext}
use Rattle.ante_wrun.specs.declared.run.HostNext.TheVariants as host_next
use Rattle.ante_wrun.specs.declared.run.Progress.{Progress}
use Rattle.ante_wrun.specs.declared.run.Progress.TheVariants as progress
use Rattle.ante_wmeaning.specs.Environment.{Environment, after_call, Wanting}
use Rattle.ante_wmeaning.specs.RunEnds.{Remainder, Ends, Lacking}
use Rattle.ante_wmeaning.specs.Configurations.{Program, Outcome, Normal}
use Rattle.ante_wmeaning.specs.PlainInstructions.{popped}
use Rattle.ante_wmeaning.specs.Execution.{due, arguments}
use Rattle.ante_wrun.specs.ThreadStates.{state_of, going}

-- a look where one is due
abbrev pub MayLook : {S : Type 0} → (may : S → Option ℕ → S → Type 0) → Bool → S → Option ℕ → S → Type 0
MayLook may false old answer new = new ≡ old
MayLook may true old answer new = may old answer new

abbrev pub look_of : Paid → Option ℕ
look_of (paid.Cut at) = Some at
look_of paid.Yes = None
look_of paid.StepLimit = None

abbrev pub Pays : (left last : ℕ) → Paid → (left' last' : ℕ) → Type 0
Pays left last paid.Yes left' last' = (left ≡ suc left') × (last' ≡ left)
Pays left last paid.StepLimit left' last' = (left ≡ 0) × (left' ≡ 0)
Pays left last (paid.Cut at) left' last' = (due left last ≡ true) × (left' ≡ left)

-- the arguments of a host call, below the room for its result
abbrev pub host_arguments : FuncType → List ℕ → List ℕ
host_arguments kind stack = masked kind.params (arguments (length kind.params) (popped stack))

module _ {W R : Type 0} (host : HostMeaning W R) (stands : Remainder W R) (program : Program) where
  -- a host call, from the outcome of the whole that begins with it
  abbrev pub HostLeads : Outcome W R → HostNext R → Thread → W → (left last : ℕ) → Environment → Type 0
  HostLeads o host_next.Go t w left last environment =
      environment.call_lacks environment.calls ≡ false → o ≡ going host program t (state_of t.state w left last (after_call environment))
  HostLeads o (host_next.Ended e) t w left last environment = environment.call_lacks environment.calls ≡ false → Ends stands e w left (after_call environment) o
  HostLeads o host_next.Lacks t w left last environment = environment.call_lacks environment.calls ≡ true → Lacking stands w left environment o

  -- a turn, from the outcome of the whole before it
  abbrev pub TurnLeads : Outcome W R → Result (Progress R) AllocError → Thread → W → (left last : ℕ) → Environment → Type 0
  TurnLeads o (Ok progress.Go) t w left last environment = o ≡ going host program t (state_of t.state w left last environment)
  TurnLeads o (Ok progress.Over) t w left last environment = o ≡ Normal (state_of t.state w left last environment)
  TurnLeads o (Ok (progress.Ended e)) t w left last environment = Ends stands e w left environment o
  TurnLeads o (Err e) t w left last environment = Wanting environment → Lacking stands w left environment o

module _ {W R : Type 0} (stands : Remainder W R) where
  -- a run to the end of the last body, or to its own end
  abbrev pub RunLeads : Outcome W R → Result (Option (RunEnd R)) AllocError → Thread → W → (left last : ℕ) → Environment → Type 0
  RunLeads o (Ok None) t w left last environment = o ≡ Normal (state_of t.state w left last environment)
  RunLeads o (Ok (Some e)) t w left last environment = Ends stands e w left environment o
  RunLeads o (Err e) t w left last environment = Wanting environment → Lacking stands w left environment o
