-- Parts of an action one after another.
use Rattle.std.proofs.Common.{◌≡◌, refl, ap, ◌∙◌, ℕ, ◌+◌, List, Option, Result, Ok, Err, arith}
use Rattle.ante_base.specs.Stops.{Rises}
use Rattle.ante_types.specs.declared.failure.Failure.{Failure}
use Rattle.ante_types.specs.declared.trace.ActionTrace.{ActionTrace}
use Rattle.ante_execution.specs.Actions.{Failed, and_then}
use Rattle.ante_execution.specs.declared.ends.ApplyEnd.{ApplyEnd}
use Rattle.ante_execution.specs.declared.ends.ApplyEnd.TheVariants as ends
use Rattle.ante_apply.specs.Going.{Follows}
use Rattle.ante_apply.proofs.Stops.{rises_both}

pub sum : (k n m : ℕ) → k + n + m ≡ k + (n + m)
sum k n m = omega arith

abbrev pub failed : Failure → ℕ → List ActionTrace → ℕ → Failed
failed f left traces looks = record { failure = f; left = left; traces = traces; looks = looks }

module _ {A B : Type 0} (went : A → ℕ → B) (left : ℕ) (traces : List ActionTrace) (k n : ℕ) (old mid new : Option ℕ) (d e : Result B Failed)
    (is : d ≡ e) (rises : Rises n old mid) where
  -- what follows from a later count follows from an earlier one
  pub from_earlier : (result : Result A ApplyEnd) → Follows went (k + n) mid new e result left traces → Follows went k old new d result left traces
  from_earlier (Ok a) (m, more, same) = (n + m, rises_both n m old mid new rises more, is ∙ same ∙ ap (λ x. Ok (went a x)) (sum k n m))
  from_earlier (Err (ends.Failed f)) (m, more, same) =
      (n + m, rises_both n m old mid new rises more, is ∙ same ∙ ap (λ x. Err (failed f left traces x)) (sum k n m))
  from_earlier (Err ends.OutOfMemory) h = tt
  from_earlier (Err (ends.Cut at)) h = tt

module _ {A B C D : Type 0} (first : A → ℕ → B) (went : C → ℕ → D) (go : B → Result D Failed) (k : ℕ) (old mid new : Option ℕ) (d : Result B Failed) where
  -- where the first part went on, the whole is the second part from there
  pub goes_on : (a : A) (left rest : ℕ) (traces more : List ActionTrace) (result : Result C ApplyEnd) → (h : Follows first k old mid d (Ok a) left traces) →
      Follows went (k + h.0) mid new (go (first a (k + h.0))) result rest more → Follows went k old new (and_then d go) result rest more
  goes_on a left rest traces more result h follows =
      from_earlier went rest more k h.0 old mid new (and_then d go) (go (first a (k + h.0))) (ap (λ x. and_then x go) h.2) h.1 result follows

  -- where it didn't, the whole ended as it did
  pub ends_so : (e : ApplyEnd) (left : ℕ) (traces : List ActionTrace) → Follows first k old mid d (Err e) left traces →
      Follows went k old mid (and_then d go) (Err e) left traces
  ends_so (ends.Failed f) left traces h = (h.0, h.1, ap (λ x. and_then x go) h.2)
  ends_so ends.OutOfMemory left traces h = tt
  ends_so (ends.Cut at) left traces h = tt

pub in_order : {A B C : Type 0} (d : Result A Failed) (f : A → Result B Failed) (g : B → Result C Failed) →
    and_then (and_then d f) g ≡ and_then d (λ x. and_then (f x) g)
in_order (Ok a) f g = refl
in_order (Err e) f g = refl
