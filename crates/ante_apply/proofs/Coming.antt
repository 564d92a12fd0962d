-- From a run to how its action goes on.
use Rattle.std.proofs.Common.{◌≡◌, refl, sym, ap, subst, ◌∙◌, ℕ, ◌+◌, ◌-◌, List, [], ◌∷◌, ◌++◌, length, Option, None, Some, Result, Ok, Err}
use Rattle.ante_types.specs.declared.chain.Action.{Action}
use Rattle.ante_types.specs.declared.context.RunContext.{RunContext}
use Rattle.ante_types.specs.declared.failure.Failure.{Failure}
use Rattle.ante_types.specs.declared.trace.ActionTrace.{ActionTrace}
use Rattle.ante_types.specs.World.{World}
use Rattle.ante_calls.specs.Views.{Seen, said}
use Rattle.ante_execution.specs.Actions.{Scene, Going, Failed, context_of, next_ordinal, after_run, asked_by, run_one}
use Rattle.ante_execution.specs.declared.ends.ApplyEnd.{ApplyEnd}
use Rattle.ante_execution.specs.declared.ends.ApplyEnd.TheVariants as ends
use Rattle.ante_execution.specs.declared.jobs.Asked.{Asked}
use Rattle.ante_execution.specs.declared.jobs.Job.{Job}
use Rattle.ante_execution.specs.Runs.{Codes, Ran, HasRun, runs}
use Rattle.ante_apply.specs.Going.{going, Closes, Follows}
use Rattle.ante_apply.specs.Runs.{seen, Leads, RunsTo}
use Rattle.ante_apply.specs.Scenes.{asked_after, said_trace}

module _ (codes : Codes) (scene : Scene) (action : Action) (job : Job) (asked : Asked) (w : World) (before : ℕ) (traces : List ActionTrace) (k : ℕ) (old new : Option ℕ)
    (run : RunContext) (is : run ≡ context_of scene action job asked.recipients) where
  abbrev start : Going
  start = going w before traces k

  abbrev ran : Ran
  ran = runs codes (seen w run scene.packed) before

  by_run : run_one codes scene action job asked start ≡ after_run ran.failure action job asked start ran
  unfolding run_one
  by_run = ap (λ x. let r = runs codes (seen w x scene.packed) before in after_run r.failure action job asked start r) (sym is)

  -- the traces with one more
  abbrev more : List ℕ × List ℕ → (left : ℕ) → List ActionTrace
  more words left = traces ++ said_trace action job (next_ordinal traces) words (before - left) ∷ []

  abbrev went : Asked → World → List ℕ × List ℕ → (left looks : ℕ) → Result (Asked × Going) Failed
  went a v words left looks = Ok (a, going v left (more words left) (k + looks))

  abbrev failed : Failure → List ℕ × List ℕ → (left looks : ℕ) → Result (Asked × Going) Failed
  failed f words left looks = Err (record { failure = f; left = left; traces = more words left; looks = k + looks })

  came_fine : (s : Seen) (left looks : ℕ) → HasRun ran None s left looks →
      after_run ran.failure action job asked start ran ≡ went (asked_by job (next_ordinal traces) asked s.run) s.world (said s.run) left looks
  came_fine s left looks e = ap (λ (x : Ran). after_run x.failure action job asked start x) e

  came_failed : (f : Failure) (s : Seen) (left looks : ℕ) → HasRun ran (Some f) s left looks →
      after_run ran.failure action job asked start ran ≡ failed f (said s.run) left looks
  came_failed f s left looks (e, u, l, n) =
      ap (λ x. after_run x action job asked start ran) e
      ∙ ap (λ x. failed f x ran.left ran.looks) u ∙ ap (λ x. failed f (said s.run) x ran.looks) l ∙ ap (λ x. failed f (said s.run) left x) n

  module _ (v : World) (last : RunContext) (left : ℕ) (after : List ActionTrace) (traced : after ≡ more (said last) left) where
    pub one_fine : (a : Asked) → a ≡ asked_after job (next_ordinal traces) (length asked.recipients) asked last.recipients last.inlines →
        Leads ran old new None v last left → Follows (λ b n. (b, going v left after n)) k old new (run_one codes scene action job asked start) (Ok a) left after
    one_fine a same (s, world, context, came) = let looks = came.0 in (
      looks,
      came.1,
      by_run ∙ came_fine s left looks came.2
          ∙ ap (λ x. went (asked_by job (next_ordinal traces) asked x) s.world (said x) left looks) context
          ∙ ap (λ x. went (asked_by job (next_ordinal traces) asked last) x (said last) left looks) world
          ∙ ap (λ x. went x v (said last) left looks) (sym same)
          ∙ ap (λ x. Ok (a, going v left x (k + looks))) (sym traced),
    )

    pub one_failed : (f : Failure) → Leads ran old new (Some f) v last left →
        Follows {A = Asked} (λ b n. (b, going v left after n)) k old new (run_one codes scene action job asked start) (Err (ends.Failed f)) left after
    one_failed f (s, world, context, came) = let looks = came.0 in (
      looks,
      came.1,
      by_run ∙ came_failed f s left looks came.2
          ∙ ap (λ (x : RunContext). failed f (said x) left looks) context
          ∙ ap (λ x. Err (record { failure = f; left = left; traces = x; looks = k + looks })) (sym traced),
    )

-- a run that came to no end says nothing of its action
pub unfailed : (ran : Ran) (old new : Option ℕ) (result : Result (Option Failure × RunContext) ApplyEnd) (w : World) (left : ℕ) → RunsTo ran old new result w left →
    (f : Failure) → result ≡ Err (ends.Failed f) → ⊥
unfailed ran old new result w left h f is = subst (λ r. RunsTo ran old new r w left) is h

pub run_ended : {A B : Type 0} (went : A → ℕ → B) (k : ℕ) (old new : Option ℕ) (d : Result B Failed) (left : ℕ) (traces : List ActionTrace) (e : ApplyEnd) →
    ((f : Failure) → e ≡ ends.Failed f → ⊥) → Follows went k old new d (Err e) left traces
run_ended went k old new d left traces (ends.Failed f) h = absurd (h f refl)
run_ended went k old new d left traces ends.OutOfMemory h = tt
run_ended went k old new d left traces (ends.Cut at) h = tt

module _ (codes : Codes) (scene : Scene) (action : Action) (job : Job) (asked : Asked) (w : World) (before : ℕ) (traces : List ActionTrace) (k : ℕ) (old new : Option ℕ)
    (run : RunContext) (is : run ≡ context_of scene action job asked.recipients) (v : World) (left : ℕ) (after : List ActionTrace) (ended : Option Failure × RunContext) where
  abbrev trace : ActionTrace
  trace = said_trace action job (next_ordinal traces) (said ended.1) (before - left)

  abbrev then : Asked
  then = asked_after job (next_ordinal traces) (length asked.recipients) asked ended.1.recipients ended.1.inlines

  pub one_closed : (result : Result Asked ApplyEnd) → Leads (runs codes (seen w run scene.packed) before) old new ended.0 v ended.1 left →
      Closes ended trace then traces result after →
      Follows (λ b n. (b, going v left after n)) k old new (run_one codes scene action job asked (going w before traces k)) result left after
  one_closed (Ok a) leads (none, same, traced) =
      one_fine codes scene action job asked w before traces k old new run is v ended.1 left after traced a same
      (subst (λ f. Leads (runs codes (seen w run scene.packed) before) old new f v ended.1 left) none leads)
  one_closed (Err (ends.Failed f)) leads (some, traced) =
      one_failed codes scene action job asked w before traces k old new run is v ended.1 left after traced f
      (subst (λ x. Leads (runs codes (seen w run scene.packed) before) old new x v ended.1 left) some leads)
  one_closed (Err ends.OutOfMemory) leads h = tt
  one_closed (Err (ends.Cut at)) leads h = absurd h
