-- How a run ends, and what it leaves.
use Rattle.std.specs.Prelude.{◌≡◌, ℕ, ◌≤◌, List, Result, Ok, Err}
use Rattle.std.specs.declared.alloc.AllocError.{AllocError}
use Rattle.ante_wmem.specs.Linear.{LinearMemory}
use Rattle.ante_wmem.specs.declared.host.HostAnswer.{HostAnswer}
use Rattle.ante_wmem.specs.declared.host.HostAnswer.TheVariants as answer
use Rattle.ante_wmeaning.specs.declared.ends.RunEnd.{RunEnd}
use Rattle.ante_wmeaning.specs.declared.ends.RunEnd.TheVariants as end
use Rattle.ante_wmeaning.specs.Environment.{Environment, Calm, undisturbed, calm_from, Wanting}
use Rattle.ante_wmeaning.specs.Configurations.{State, Outcome, Normal, Branch, Returned, Ended, Lacks, InHost, Stuck}

-- what a call with these arguments, memory and steps left leaves of its host, where it is answered so
abbrev pub Remainder : Type 0 → Type 0 → Type 1
Remainder W R = W → (number : ℕ) → (arguments : List ℕ) → LinearMemory → (left : ℕ) → HostAnswer R → W → Type 0

module _ {W R : Type 0} (stands : Remainder W R) where
  -- the outcome is this end, with this host and these steps left
  abbrev pub Ends : RunEnd R → W → (left : ℕ) → Environment → Outcome W R → Type 0
  Ends e w left environment (Normal s) = (e ≡ end.Done) × (s.world ≡ w) × (s.left ≡ left) × (s.environment ≡ environment)
  Ends e w left environment (Branch n s) = ⊥
  Ends e w left environment (Returned s) = ⊥
  Ends e w left environment (Ended f s) = (e ≡ f) × (s.world ≡ w) × (s.left ≡ left) × (s.environment ≡ environment)
  Ends e w left environment (Lacks s) = ⊥
  Ends e w left environment (InHost f args (answer.Value n) after s) = ⊥
  Ends e w left environment (InHost f args answer.Nothing after s) = ⊥
  Ends e w left environment (InHost f args answer.Exit after s) = ⊥
  Ends e w left environment (InHost f args (answer.Refused r) after s) =
      (e ≡ end.Refused r) × stands s.world f args s.values.memory s.left (answer.Refused r) w × (after ≡ left) × (s.environment ≡ environment)
  Ends e w left environment (InHost f args answer.StepLimit after s) =
      (e ≡ end.StepLimit) × stands s.world f args s.values.memory s.left answer.StepLimit w × (left ≡ 0) × (s.environment ≡ environment)
  Ends e w left environment (InHost f args answer.OutOfMemory after s) = ⊥
  Ends e w left environment Stuck = ⊥

  -- Memory was wanted: the host and the steps left are as the last instruction done, or the host's own refused call, left them.
  abbrev pub Lacking : W → (left : ℕ) → Environment → Outcome W R → Type 0
  Lacking w left environment (Normal s) = ⊥
  Lacking w left environment (Branch n s) = ⊥
  Lacking w left environment (Returned s) = ⊥
  Lacking w left environment (Ended f s) = ⊥
  Lacking w left environment (Lacks s) = (s.world ≡ w) × (s.left ≡ left) × (s.environment ≡ environment)
  Lacking w left environment (InHost f args (answer.Value n) after s) = ⊥
  Lacking w left environment (InHost f args answer.Nothing after s) = ⊥
  Lacking w left environment (InHost f args answer.Exit after s) = ⊥
  Lacking w left environment (InHost f args (answer.Refused r) after s) = ⊥
  Lacking w left environment (InHost f args answer.StepLimit after s) = ⊥
  Lacking w left environment Stuck = ⊥
  Lacking w left environment (InHost f args answer.OutOfMemory after s) =
      stands s.world f args s.values.memory s.left answer.OutOfMemory w × (left ≤ s.left) × (s.environment ≡ environment)

-- a run that finds a rule for each of its instructions
abbrev pub NotStuck : {W R : Type 0} → Outcome W R → Type 0
NotStuck (Normal s) = Unit {0}
NotStuck (Branch n s) = Unit {0}
NotStuck (Returned s) = Unit {0}
NotStuck (Ended e s) = Unit {0}
NotStuck (Lacks s) = Unit {0}
NotStuck (InHost f args a n s) = Unit {0}
NotStuck Stuck = ⊥

-- Of this outcome, which the environment decides, one is calm and isn't stuck.
abbrev pub Sound : {W R : Type 0} → (Environment → Outcome W R) → Type 0
Sound o = (environment : Environment) × Calm environment × NotStuck (o environment)

-- the run has ended so
abbrev pub Stops : {W R : Type 0} → RunEnd R → W → ℕ → Environment → Outcome W R → Type 0
Stops {W} {R} e w left environment o = (s : State W) × (o ≡ Ended e s) × (s.world ≡ w) × (s.left ≡ left) × (s.environment ≡ environment)

-- what a run answers, from the outcome that it has
abbrev pub RunAnswers : {W R : Type 0} → (stands : Remainder W R) → Outcome W R → Result (RunEnd R) AllocError → W → (left : ℕ) → Environment → Type 0
RunAnswers stands o (Ok e) w left environment = Ends stands e w left environment o
RunAnswers stands o (Err e) w left environment = Wanting environment → Lacking stands w left environment o

-- the outcome is this end, with this host and these steps left, in an environment of which this holds
abbrev pub EndsWith : {W R : Type 0} → (stands : Remainder W R) → RunEnd R → W → (left : ℕ) → (Environment → Type 0) → Outcome W R → Type 0
EndsWith stands e w left holds o = (after : Environment) × Ends stands e w left after o × holds after

-- no look asked the run to stop
abbrev pub Uncut : {R : Type 0} → Result (RunEnd R) AllocError → Type 0
Uncut result = (at : ℕ) → result ≡ Ok (end.Cut at) → ⊥

-- what a run answers, where what was asked of its environment is left out
abbrev pub AnswersIn : {W R : Type 0} → (stands : Remainder W R) → Outcome W R → Result (RunEnd R) AllocError → W → (left : ℕ) → Environment → Type 0
AnswersIn stands o (Ok e) w left environment = Ends stands e w left environment o
AnswersIn stands o (Err e) w left environment = Lacking stands w left environment o

-- In some environment the outcome is this. It began as the undisturbed one does, and only what ended the run disturbed it.
abbrev pub Comes : {W R : Type 0} → (stands : Remainder W R) →
    (Environment → Outcome W R) → Result (RunEnd R) AllocError → W → (left : ℕ) → Type 0
Comes stands o result w left =
    (environment : Environment) × (calm_from environment ≡ undisturbed) × (after : Environment) × AnswersIn stands (o environment) result w left after
