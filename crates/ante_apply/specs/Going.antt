-- What the code of a part of an action answers, from a count of looks on.
use Rattle.std.specs.Prelude.{◌≡◌, ℕ, suc, ◌+◌, List, [], ◌∷◌, ◌++◌, None, Some, Option, Result, Ok, Err}
use Rattle.ante_base.specs.Stops.{Rises}
use Rattle.ante_types.specs.declared.context.RunContext.{RunContext}
use Rattle.ante_types.specs.declared.failure.Failure.{Failure}
use Rattle.ante_types.specs.World.{World}
use Rattle.ante_types.specs.declared.trace.ActionTrace.{ActionTrace}
use Rattle.ante_types.specs.declared.chain.Action.{Action}
use Rattle.ante_execution.specs.Actions.{Scene, Going, Failed, and_then, run_one, first_job, nothing_asked, notify, next_ordinal}
use Rattle.ante_execution.specs.Runs.{Codes}
use Rattle.ante_execution.specs.declared.jobs.Asked.{Asked}
use Rattle.ante_execution.specs.declared.jobs.Sender.{Sender}
use Rattle.ante_execution.specs.declared.ends.ApplyEnd.{ApplyEnd}
use Rattle.ante_execution.specs.declared.ends.ApplyEnd.TheVariants as ends

abbrev pub going : World → (left : ℕ) → List ActionTrace → (looks : ℕ) → Going
going w left traces looks = record { world = w; left = left; traces = traces; looks = looks }

-- It went on or failed as the definition says, and the stop's count rose by the looks that this took.
module _ {A B : Type 0} (went : A → (looks : ℕ) → B) (k : ℕ) (old new : Option ℕ) where
  abbrev pub Follows : Result B Failed → Result A ApplyEnd → (left : ℕ) → List ActionTrace → Type 0
  Follows d (Ok a) left traces = (n : ℕ) × Rises n old new × (d ≡ Ok (went a (k + n)))
  Follows d (Err (ends.Failed f)) left traces =
      (n : ℕ) × Rises n old new × (d ≡ Err (record { failure = f; left = left; traces = traces; looks = k + n }))
  Follows d (Err ends.OutOfMemory) left traces = Unit {0}
  Follows d (Err (ends.Cut at)) left traces = Unit {0}

-- A run that ended so has this trace, and failed as it did or left this to be asked for.
abbrev pub Closes : Option Failure × RunContext → ActionTrace → (after : Asked) → (old : List ActionTrace) → Result Asked ApplyEnd → List ActionTrace → Type 0
Closes ended trace after old (Ok a) new = (ended.0 ≡ None) × (a ≡ after) × (new ≡ old ++ trace ∷ [])
Closes ended trace after old (Err (ends.Failed f)) new = (ended.0 ≡ Some f) × (new ≡ old ++ trace ∷ [])
Closes ended trace after old (Err ends.OutOfMemory) new = Unit {0}
Closes ended trace after old (Err (ends.Cut at)) new = ⊥

module _ (codes : Codes) (scene : Scene) where
  -- all runs of an action at this depth, without what they sent
  abbrev pub all_runs : (depth : ℕ) → Action → Sender → Going → Result (Asked × Going) Failed
  all_runs depth action by g =
      and_then (run_one codes scene action (first_job action by depth) nothing_asked g)
      (λ x. notify codes scene action depth (next_ordinal g.traces) (suc x.1.left) 0 x)
