-- A run over the host came out as the run of what it sees does alone, with as many looks; and the host holds what it held.
use Rattle.std.proofs.Common.{◌≡◌, refl, sym, subst, ◌∙◌, ℕ, ◌-◌, arith, List, Option, Result, Ok, Err}
use Rattle.std.specs.declared.alloc.AllocError.{AllocError}
use Rattle.std.specs.Prelude.{IfOk}
use Rattle.ante_base.specs.Stops.{Rises}
use Rattle.ante_types.specs.declared.failure.Failure.{Failure}
use Rattle.ante_wmem.specs.declared.host.HostAnswer.TheVariants as answer
use Rattle.ante_wtree.specs.Trees.{Tree}
use Rattle.ante_wmeaning.specs.declared.ends.RunEnd.{RunEnd}
use Rattle.ante_wmeaning.specs.declared.ends.RunEnd.TheVariants as end
use Rattle.ante_wmeaning.specs.Configurations.{Outcome, Normal, Branch, Returned, Ended, Lacks, InHost, Stuck}
use Rattle.ante_wmeaning.specs.Environment.{Environment, undisturbed, CountsLooks}
use Rattle.ante_wmeaning.specs.Invocation.{run_of}
use Rattle.ante_wmeaning.specs.RunEnds.{Remainder, Ends, EndsWith, Uncut, Comes}
use Rattle.ante_wmeaning.specs.Likeness.{SameOutcome, EndsLike, AnswersLike}
use Rattle.ante_wmeaning.proofs.Answered.{answers_like}
use Rattle.ante_wmeaning.proofs.Likeness.{run_alike}
use Rattle.ante_wmeaning.proofs.Staying.{stays_so}
use Rattle.ante_calls.specs.Views.{Seen}
use Rattle.ante_execution.specs.CodeLaws.{remains, ends_as}
use Rattle.ante_execution.specs.Codes.{failure_of}
use Rattle.ante_execution.specs.HostLaws.{hosts_alike}
use Rattle.ante_execution.specs.Hosts.{HostView, host_call, call, Shows}
use Rattle.ante_host.specs.Code.{run_alone, CameOut, RunsAs}

-- ---- an end over one host is an end over a host that replies alike

module _ {V W R : Type 0} (Like : V → W → Type 0) (stands : Remainder V R) (e : RunEnd R) (v : V) (left : ℕ) (after : Environment) where
  as_like : (p : Outcome V R) (o : Outcome W R) → SameOutcome (λ x. x) Like p o → Ends stands e v left after p → EndsLike Like stands e v left after o
  as_like (Normal s) o (w, like, is) h = subst (λ x. EndsLike Like stands e v left after x) (sym is) (h.0, subst (λ x. Like x w) h.1 like, h.2, h.3)
  as_like (Branch n s) o same h = absurd h
  as_like (Returned s) o same h = absurd h
  as_like (Ended f s) o (w, like, is) h = subst (λ x. EndsLike Like stands e v left after x) (sym is) (h.0, subst (λ x. Like x w) h.1 like, h.2, h.3)
  as_like (Lacks s) o same h = absurd h
  as_like (InHost f args (answer.Value n) rest s) o same h = absurd h
  as_like (InHost f args answer.Nothing rest s) o same h = absurd h
  as_like (InHost f args answer.Exit rest s) o same h = absurd h
  as_like (InHost f args (answer.Refused r) rest s) o (w, like, is) h =
      subst (λ x. EndsLike Like stands e v left after x) (sym is) (h.0, (s.world, like, h.1), h.2, h.3)
  as_like (InHost f args answer.StepLimit rest s) o (w, like, is) h =
      subst (λ x. EndsLike Like stands e v left after x) (sym is) (h.0, (s.world, like, h.1), h.2, h.3)
  as_like (InHost f args answer.OutOfMemory rest s) o same h = absurd h
  as_like Stuck o same h = absurd h

whole : (n : ℕ) → n - 0 ≡ n
whole n = omega arith

-- ---- the host of a run

module _ (m : Tree) (args : List ℕ) (before : HostView) (steps : ℕ) where
  abbrev alone : Outcome Seen Failure
  alone = run_of call m args before.seen steps undisturbed

  abbrev lent : Outcome HostView Failure
  lent = run_of host_call m args before steps undisturbed

  shown : Shows before before before.seen
  shown = (refl, refl, refl)

  same_outcome : SameOutcome (λ x. x) (Shows before) lent alone
  same_outcome = run_alike (Shows before) host_call call (hosts_alike before) m args before before.seen steps undisturbed shown

  module _ (v : HostView) (left : ℕ) where
    came : (e : RunEnd Failure) (old new : Option ℕ) → EndsWith remains e v left (CountsLooks old new undisturbed) lent →
        CameOut (run_alone m args before.seen steps) old new (failure_of e) v.seen left
    came e old new (after, ends, counts) =
        (after.looks, subst (λ n. Rises n old new) (whole after.looks) counts, ends_as before before.seen v left after e alone (as_like (Shows before) remains e v left after lent alone same_outcome ends))

    pub runs_as : (result : Result (RunEnd Failure) AllocError) (old new : Option ℕ) →
        (Uncut result → IfOk result (λ e. EndsWith remains e v left (CountsLooks old new undisturbed) lent)) →
        RunsAs (run_alone m args before.seen steps) old new result v.seen left
    runs_as (Ok (end.Cut at)) old new h = tt
    runs_as (Ok end.Done) old new h = came end.Done old new (h (λ at is. cc))
    runs_as (Ok end.Exit) old new h = came end.Exit old new (h (λ at is. cc))
    runs_as (Ok (end.Trap kind)) old new h = came (end.Trap kind) old new (h (λ at is. cc))
    runs_as (Ok end.StepLimit) old new h = came end.StepLimit old new (h (λ at is. cc))
    runs_as (Ok end.CallDepth) old new h = came end.CallDepth old new (h (λ at is. cc))
    runs_as (Ok (end.Refused f)) old new h = came (end.Refused f) old new (h (λ at is. cc))
    runs_as (Err e) old new h = tt

    module _ (result : Result (RunEnd Failure) AllocError) (h : Comes remains (λ (x : Environment). run_of host_call m args before steps x) result v left) where
      alike : AnswersLike (Shows before) remains alone result v left
      alike = answers_like (Shows before) remains host_call call (hosts_alike before) m args before before.seen steps shown result v left h

      pub same_base : v.base ≡ before.base
      same_base = stays_so (Shows before) remains (λ x. x.base ≡ before.base) (λ x s shows. shows.1)
          (λ x number xs memory n a y p leaves. leaves.0 ∙ p) alone result v left alike

      pub same_holder : v.holder ≡ before.holder
      same_holder = stays_so (Shows before) remains (λ x. x.holder ≡ before.holder) (λ x s shows. shows.2)
          (λ x number xs memory n a y p leaves. leaves.2 ∙ p) alone result v left alike
