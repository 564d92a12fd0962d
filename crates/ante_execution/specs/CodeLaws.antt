-- From the interpreter to a run: the end that it answers over a host is how the run comes out, of what the host shows.
use Rattle.std.proofs.Common.{◌≡◌, ◌∙◌, ℕ, List, Option, None, Some, refl, ap, subst, sym}
use Rattle.ante_types.specs.declared.failure.Failure.{Failure}
use Rattle.ante_wmem.specs.Linear.{LinearMemory}
use Rattle.ante_wmem.specs.declared.host.HostAnswer.{HostAnswer}
use Rattle.ante_wmem.specs.declared.host.HostAnswer.TheVariants as answer
use Rattle.ante_wmeaning.specs.declared.ends.RunEnd.{RunEnd}
use Rattle.ante_wmeaning.specs.declared.ends.RunEnd.TheVariants as end
use Rattle.ante_wmeaning.specs.Configurations.{State, Outcome, Normal, Branch, Returned, Ended, Lacks, InHost, Stuck}
use Rattle.ante_wmeaning.specs.Environment.{Environment}
use Rattle.ante_wmeaning.specs.Likeness.{EndsLike}
use Rattle.ante_calls.specs.Views.{Seen, said}
use Rattle.ante_execution.specs.Codes.{failure_of, ended, of_outcome}
use Rattle.ante_execution.specs.Hosts.{HostView, Leaves, Shows}
use Rattle.ante_execution.specs.Runs.{Ran, HasRun}

-- what the host says of a refused call
abbrev pub remains : HostView → ℕ → List ℕ → LinearMemory → ℕ → HostAnswer Failure → HostView → Type 0
remains old number args m left answer new = Leaves old new

abbrev run : Option Failure → Seen → (left looks : ℕ) → Ran
run f s left looks = record { failure = f; seen = s; left = left; looks = looks }

same_run : (f : Option Failure) (s t : Seen) (n left k looks : ℕ) → s ≡ t → n ≡ left → k ≡ looks → HasRun (run f s n k) f t left looks
same_run None s t n left k looks e d c =
    subst (λ (x : Seen). run None s n k ≡ run None x left looks) e
    (subst (λ (x : ℕ). run None s n k ≡ run None s x looks) d (subst (λ (x : ℕ). run None s n k ≡ run None s n x) c refl))
same_run (Some f) s t n left k looks e d c = (refl, ap (λ (x : Seen). said x.run) e, d, c)

said_alike : (before v u : HostView) (s : Seen) → Shows before u s → Leaves u v → said s.run ≡ said v.seen.run
said_alike before v u s shows leaves = ap (λ (x : Seen). said x.run) (sym shows.0) ∙ sym leaves.1

module _ (before : HostView) (s : Seen) (v : HostView) (left : ℕ) (after : Environment) where
  abbrev Holds : RunEnd Failure → Outcome Seen Failure → Type 0
  Holds e o = HasRun (of_outcome s o) (failure_of e) v.seen left after.looks

  as_ended : (f : RunEnd Failure) (t : State Seen) → Shows before v t.world → t.left ≡ left → t.environment ≡ after →
      HasRun (ended f t.left t) (failure_of f) v.seen left after.looks
  as_ended f t shows l n = same_run (failure_of f) t.world v.seen t.left left t.environment.looks after.looks (sym shows.0) l (ap (λ (x : Environment). x.looks) n)

  pub ends_as : (e : RunEnd Failure) (o : Outcome Seen Failure) → EndsLike (Shows before) remains e v left after o → Holds e o
  ends_as e (Normal t) (d, shows, l, n) = subst (λ (x : RunEnd Failure). Holds x (Normal t)) (sym d) (as_ended end.Done t shows l n)
  ends_as e (Ended f t) (d, shows, l, n) = subst (λ (x : RunEnd Failure). Holds x (Ended f t)) (sym d) (as_ended f t shows l n)
  ends_as e (InHost f args (answer.Refused r) k t) (d, (u, shows, leaves), l, n) =
      subst (λ (x : RunEnd Failure). Holds x (InHost f args (answer.Refused r) k t)) (sym d)
      (refl, said_alike before v u t.world shows leaves, l, ap (λ (x : Environment). x.looks) n)
  ends_as e (InHost f args answer.StepLimit k t) (d, (u, shows, leaves), l, n) =
      subst (λ (x : RunEnd Failure). Holds x (InHost f args answer.StepLimit k t)) (sym d)
      (refl, said_alike before v u t.world shows leaves, sym l, ap (λ (x : Environment). x.looks) n)
  ends_as e (InHost f args (answer.Value n) k t) h = absurd h
  ends_as e (InHost f args answer.Nothing k t) h = absurd h
  ends_as e (InHost f args answer.Exit k t) h = absurd h
  ends_as e (InHost f args answer.OutOfMemory k t) h = absurd h
  ends_as e (Branch k t) h = absurd h
  ends_as e (Returned t) h = absurd h
  ends_as e (Lacks t) h = absurd h
  ends_as e Stuck h = absurd h
