-- What a transaction comes to, by what its actions came to.
use Rattle.std.proofs.Common.{◌≡◌, inl, inr, ℕ, ◌+◌, ◌-◌, List, Option, None, Some, Result, Ok, Err, refl, sym, ap, ◌∙◌}
use Rattle.ante_types.specs.declared.chain.Head.{Head}
use Rattle.ante_types.specs.declared.chain.Transaction.{Transaction}
use Rattle.ante_types.specs.declared.failure.Failure.{Failure}
use Rattle.ante_types.specs.declared.trace.ActionTrace.{ActionTrace}
use Rattle.ante_types.specs.Limits.{most_transaction_steps}
use Rattle.ante_types.specs.World.{World}
use Rattle.ante_execution.specs.Actions.{Going, Failed}
use Rattle.ante_execution.specs.Transactions.{Done, acted, finished, memory_refusal, refused_as, trace_with, with_recent}
use Rattle.ante_execution.specs.declared.ends.ApplyEnd.TheVariants as ends
use Rattle.ante_apply.specs.Going.{going, Follows}
use Rattle.ante_transactions.specs.Transacting.{ActsTo}

module _ (head : Head) (t : Transaction) (packed : List ℕ) (w : World) where
  abbrev fine_as : World → (left : ℕ) → List ActionTrace → Done
  fine_as v left traces = record { trace = trace_with 0 head packed None (most_transaction_steps - left) traces; world = with_recent t packed v }

  pub fine : (d : Result Going Failed) (v : World) (left : ℕ) (traces : List ActionTrace) → ActsTo d w None v left traces → acted head t packed w d ≡ fine_as v left traces
  fine d v left traces (n, is, none) = ap (acted head t packed w) is ∙ ap (λ m. finished head t packed w m (going v left traces n)) none

  pub failed : (d : Result Going Failed) (f : Failure) (v : World) (left : ℕ) (traces : List ActionTrace) → ActsTo d w (Some f) v left traces →
      acted head t packed w d ≡ refused_as head t packed w f left traces
  failed d f v left traces (inl (n, is)) = ap (acted head t packed w) is
  failed d f v left traces (inr (n, is, some)) = ap (acted head t packed w) is ∙ ap (λ m. finished head t packed w m (going v left traces n)) some

  -- a transaction that failed leaves the state as it was
  pub failed_stays : (d : Result Going Failed) (f : Failure) → (acted head t packed w d).trace.failure ≡ Some f → (acted head t packed w d).world ≡ w
  failed_stays (Err e) f is = refl
  failed_stays (Ok g) f is = by (memory_refusal w g.world) is
    where
      by : (m : Option Failure) → (finished head t packed w m g).trace.failure ≡ Some f → (finished head t packed w m g).world ≡ w
      by (Some x) is = refl
      by None is = cc

-- from what the code of the actions answers
module _ (d : Result Going Failed) (old v : World) (left : ℕ) (traces : List ActionTrace) (before after : Option ℕ) where
  abbrev went : Unit {0} → ℕ → Going
  went done n = going v left traces n

  pub acts_fine : (m : Option Failure) → m ≡ memory_refusal old v → Follows went 0 before after d (Ok tt) left traces → ActsTo d old m v left traces
  acts_fine None is h = (0 + h.0, h.2, sym is)
  acts_fine (Some f) is h = inr (0 + h.0, h.2, sym is)

  pub acts_failed : (f : Failure) → Follows went 0 before after d (Err (ends.Failed f)) left traces → ActsTo d old (Some f) v left traces
  acts_failed f h = inl (0 + h.0, h.2)
