-- What the run of a module answers, of what the run that nothing disturbs is.
use Rattle.std.specs.Prelude.{◌≡◌, ℕ, List, Option, Result, Ok, Err}
use Rattle.std.specs.declared.alloc.AllocError.{AllocError}
use Rattle.ante_base.specs.Stops.{Rises}
use Rattle.ante_types.specs.World.{World}
use Rattle.ante_types.specs.declared.context.RunContext.{RunContext}
use Rattle.ante_types.specs.declared.failure.Failure.{Failure}
use Rattle.ante_wtree.specs.Trees.{Tree}
use Rattle.ante_wmeaning.specs.declared.ends.RunEnd.{RunEnd}
use Rattle.ante_wmeaning.specs.declared.ends.RunEnd.TheVariants as end
use Rattle.ante_wmeaning.specs.Environment.{undisturbed}
use Rattle.ante_wmeaning.specs.Invocation.{run_of}
use Rattle.ante_calls.specs.Views.{Seen, no_lists}
use Rattle.ante_execution.specs.Codes.{of_outcome, failure_of}
use Rattle.ante_execution.specs.Hosts.{call}
use Rattle.ante_execution.specs.Runs.{Ran, HasRun}

-- what a run sees that has met no rows yet
abbrev pub seen : World → RunContext → (packed : List ℕ) → Seen
seen w run packed = record { world = w; lists = no_lists; run = run; packed = packed }

-- the run of the module from what it sees, where nothing disturbs it
abbrev pub run_alone : Tree → (args : List ℕ) → Seen → (left : ℕ) → Ran
run_alone m args s left = of_outcome s (run_of call m args s left undisturbed)

module _ (ran : Ran) (old new : Option ℕ) where
  -- It came out so, and the stop's count rose by its looks.
  abbrev pub CameOut : Option Failure → Seen → (left : ℕ) → Type 0
  CameOut failure s left = (looks : ℕ) × Rises looks old new × HasRun ran failure s left looks

  -- the end of a run that no look cut
  abbrev pub EndsAs : RunEnd Failure → Seen → (left : ℕ) → Type 0
  EndsAs (end.Cut at) s left = Unit {0}
  EndsAs end.Done s left = CameOut (failure_of end.Done) s left
  EndsAs end.Exit s left = CameOut (failure_of end.Exit) s left
  EndsAs (end.Trap kind) s left = CameOut (failure_of (end.Trap kind)) s left
  EndsAs end.StepLimit s left = CameOut (failure_of end.StepLimit) s left
  EndsAs end.CallDepth s left = CameOut (failure_of end.CallDepth) s left
  EndsAs (end.Refused f) s left = CameOut (failure_of (end.Refused f)) s left

  abbrev pub RunsAs : Result (RunEnd Failure) AllocError → Seen → (left : ℕ) → Type 0
  RunsAs (Ok e) s left = EndsAs e s left
  RunsAs (Err e) s left = Unit {0}

  -- of what is seen at the end, the state and the run's context are these
  abbrev pub Leads : Result (RunEnd Failure) AllocError → World → RunContext → (left : ℕ) → Type 0
  Leads result w run left = (s : Seen) × (s.world ≡ w) × (s.run ≡ run) × RunsAs result s left
