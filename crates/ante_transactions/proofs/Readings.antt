-- What a read-only transaction comes to, by what its actions came to.
use Rattle.std.proofs.Common.{◌≡◌, ℕ, ◌+◌, ◌-◌, List, [], ◌++◌, ◌∷◌, Option, None, Some, Result, Ok, Err, refl, sym, ap, subst, ◌∙◌, arith}
use Rattle.std.specs.declared.alloc.AllocError.{AllocError}
use Rattle.ante_port.specs.declared.ReadEnd.TheVariants as end
use Rattle.ante_port.specs.Reading.{ReadsTo}
use Rattle.ante_types.specs.declared.chain.Head.{Head}
use Rattle.ante_types.specs.declared.chain.Transaction.{Transaction}
use Rattle.ante_types.specs.declared.failure.Failure.{Failure}
use Rattle.ante_types.specs.declared.trace.ActionTrace.{ActionTrace}
use Rattle.ante_types.specs.declared.trace.Trace.{Trace}
use Rattle.ante_types.specs.Limits.{most_transaction_steps}
use Rattle.ante_types.specs.World.{World}
use Rattle.ante_base.specs.Stops.{Rises}
use Rattle.ante_types.specs.declared.chain.Action.{Action}
use Rattle.ante_execution.specs.Actions.{Going, Failed, apply_all}
use Rattle.ante_execution.specs.declared.ends.ApplyEnd.{ApplyEnd}
use Rattle.ante_execution.specs.declared.ends.ApplyEnd.TheVariants as ends
use Rattle.ante_execution.specs.Runs.{Codes}
use Rattle.ante_execution.specs.Stopping.{Reaches, AskedAt}
use Rattle.ante_execution.specs.Transactions.{looks_of, looks_unless, read, read_only, read_unless, reading_looks, reading_refusal, reading_scene, reads, trace_with}
use Rattle.ante_apply.specs.Going.{going, Follows}
use Rattle.ante_apply.proofs.Stops.{looks_both, rises_none}

module _ (codes : Codes) (w : World) (position : ℕ) (head : Head) (slot : ℕ) (t : Transaction) (packed : List ℕ) where
  abbrev answer : Trace
  answer = read_only codes w position head slot t packed

  abbrev looks : ℕ
  looks = reading_looks codes w slot t packed

  -- what the code runs is what the definition does
  pub same_reads : (bytes : List ℕ) (actions : List Action) (traces : List ActionTrace) → bytes ≡ packed → actions ≡ t.actions → traces ≡ [] →
      apply_all codes (reading_scene slot bytes) actions (going w most_transaction_steps traces 0) ≡ reads codes w slot t packed
  same_reads bytes actions traces b a n = λ i. apply_all codes (reading_scene slot (b i)) (a i) (going w most_transaction_steps (n i) 0)

  pub same_trace : (bytes : List ℕ) (failure : Option Failure) (steps left : ℕ) (traces : List ActionTrace) → bytes ≡ packed → steps ≡ most_transaction_steps - left →
      trace_with position head bytes failure steps traces ≡ trace_with position head packed failure (most_transaction_steps - left) traces
  same_trace bytes failure steps left traces b s = λ i. trace_with position head (b i) failure (s i) traces

  pub refused : (f : Failure) → reading_refusal w t packed ≡ Some f → answer ≡ trace_with position head packed (Some f) 0 []
  unfolding read_only
  refused f is = ap (λ x. read_unless codes x w position head slot t packed) is

  pub refused_looks : (f : Failure) → reading_refusal w t packed ≡ Some f → looks ≡ 0
  unfolding reading_looks
  refused_looks f is = ap (λ x. looks_unless codes x w slot t packed) is

  pub refused_trace : (bytes : List ℕ) (traces : List ActionTrace) (f : Failure) → bytes ≡ packed → traces ≡ [] → reading_refusal w t packed ≡ Some f →
      answer ≡ trace_with position head bytes (Some f) 0 traces
  refused_trace bytes traces f b n is = refused f is ∙ sym (λ i. trace_with position head (b i) (Some f) 0 (n i))

  pub no_looks : (f : Failure) → reading_refusal w t packed ≡ Some f → (old : Option ℕ) → Rises looks old old
  no_looks f is old = subst (λ n. Rises n old old) (sym (refused_looks f is)) (rises_none old)

  pub refusal_is : (trx : Transaction) (bytes : List ℕ) → trx ≡ t → bytes ≡ packed → (found : Option Failure) (f : Failure) → found ≡ reading_refusal w trx bytes → found ≡ Some f →
      reading_refusal w t packed ≡ Some f
  refusal_is trx bytes x b found f told is = (λ i. reading_refusal w (sym x i) (sym b i)) ∙ sym told ∙ is

  module _ (allowed : reading_refusal w t packed ≡ None) (left : ℕ) (traces : List ActionTrace) (n : ℕ) where
    pub done : (v : World) → reads codes w slot t packed ≡ Ok (going v left traces (0 + n)) → answer ≡ trace_with position head packed None (most_transaction_steps - left) traces
    unfolding read_only
    done v is = ap (λ x. read_unless codes x w position head slot t packed) allowed ∙ ap (read position head packed) is

    pub done_looks : (v : World) → reads codes w slot t packed ≡ Ok (going v left traces (0 + n)) → looks ≡ n
    unfolding reading_looks
    done_looks v is = ap (λ x. looks_unless codes x w slot t packed) allowed ∙ ap looks_of is ∙ from_zero n
      where
        from_zero : (n : ℕ) → 0 + n ≡ n
        from_zero n = omega arith

    abbrev ended : Failure → Failed
    ended f = record { failure = f; left = left; traces = traces; looks = 0 + n }

    pub failed : (f : Failure) → reads codes w slot t packed ≡ Err (ended f) → answer ≡ trace_with position head packed (Some f) (most_transaction_steps - left) traces
    unfolding read_only
    failed f is = ap (λ x. read_unless codes x w position head slot t packed) allowed ∙ ap (read position head packed) is

    pub failed_looks : (f : Failure) → reads codes w slot t packed ≡ Err (ended f) → looks ≡ n
    unfolding reading_looks
    failed_looks f is = ap (λ x. looks_unless codes x w slot t packed) allowed ∙ ap looks_of is ∙ from_zero n
      where
        from_zero : (n : ℕ) → 0 + n ≡ n
        from_zero n = omega arith

  -- from what the code of the actions answers
  module _ (allowed : reading_refusal w t packed ≡ None) (d : Result Going Failed) (is : d ≡ reads codes w slot t packed) (v : World) (left : ℕ) (traces : List ActionTrace)
      (before after : Option ℕ) (r : Result (Unit {0}) ApplyEnd) (follows : Follows (λ done n. going v left traces n) 0 before after d r left traces) where
    at_end : (e : Result (Unit {0}) ApplyEnd) → r ≡ e → Follows (λ done n. going v left traces n) 0 before after d e left traces
    at_end e same = subst (λ r. Follows {A = Unit {0}} (λ done n. going v left traces n) 0 before after d r left traces) same follows

    pub done_trace : r ≡ Ok tt → answer ≡ trace_with position head packed None (most_transaction_steps - left) traces
    done_trace same = let h = at_end (Ok tt) same in done allowed left traces h.0 v (sym is ∙ h.2)

    pub done_count : r ≡ Ok tt → Rises looks before after
    done_count same = let h = at_end (Ok tt) same in subst (λ n. Rises n before after) (sym (done_looks allowed left traces h.0 v (sym is ∙ h.2))) h.1

    pub failed_trace : (f : Failure) → r ≡ Err (ends.Failed f) → answer ≡ trace_with position head packed (Some f) (most_transaction_steps - left) traces
    failed_trace f same = let h = at_end (Err (ends.Failed f)) same in failed allowed left traces h.0 f (sym is ∙ h.2)

    pub failed_count : (f : Failure) → r ≡ Err (ends.Failed f) → Rises looks before after
    failed_count f same = let h = at_end (Err (ends.Failed f)) same in
        subst (λ n. Rises n before after) (sym (failed_looks allowed left traces h.0 f (sym is ∙ h.2))) h.1

module _ {P : Type 0} (may : P → Option ℕ → P → Type 0) (old new : P) (reply : Trace) where
  pub answered : (t : Trace) → t ≡ reply → Reaches may old new → ReadsTo {E = AllocError} reply may old new (Ok (end.Done t))
  answered t is reached = (reached.0, reached.1, is)

  pub cut : (at : ℕ) → AskedAt may old at new → ReadsTo {E = AllocError} reply may old new (Ok (end.Cut at))
  cut at (before, reached, asks) = (
    reached.0 ++ Some at ∷ [],
    looks_both may reached.0 (Some at ∷ []) old before new reached.1 (new, asks, refl),
    (reached.0, refl),
  )
