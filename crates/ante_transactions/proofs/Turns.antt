-- The actions of a transaction one after another: what is left of the definition after some of them.
use Rattle.std.proofs.Common.{◌≡◌, sym, ap, ◌∙◌, ℕ, ◌+◌, List, [], ◌∷◌, Option, Ok, Err, arith}
use Rattle.ante_base.specs.Stops.{Rises}
use Rattle.ante_types.specs.declared.chain.Action.{Action}
use Rattle.ante_types.specs.declared.trace.ActionTrace.{ActionTrace}
use Rattle.ante_execution.specs.Actions.{Scene, Going, and_then, apply, apply_all}
use Rattle.ante_execution.specs.declared.ends.ApplyEnd.{ApplyEnd}
use Rattle.ante_execution.specs.Runs.{Codes}
use Rattle.ante_apply.specs.Going.{Follows}
use Rattle.ante_apply.proofs.Joining.{sum, from_earlier, ends_so}
use Rattle.ante_apply.proofs.Stops.{rises_both, rises_none}

module _ (codes : Codes) (scene : Scene) (actions : List Action) (start : ℕ → Going) (old : Option ℕ) where
  -- what is left is what the rest of the actions come to, with some looks made
  abbrev pub InOrder : List Action → (now : ℕ → Going) → (new : Option ℕ) → Type 0
  InOrder rest now new = (k : ℕ) → (n : ℕ) × Rises n old new × (apply_all codes scene actions (start k) ≡ apply_all codes scene rest (now (k + n)))

  pub none_done : InOrder actions start old
  none_done k = (0, rises_none old, ap (λ x. apply_all codes scene actions (start x)) (omega arith))

  pub one_done : (a : Action) (rest : List Action) (now next : ℕ → Going) (mid new : Option ℕ) → InOrder (a ∷ rest) now mid →
      ((k : ℕ) → (m : ℕ) × Rises m mid new × (apply codes scene a (now k) ≡ Ok (next (k + m)))) → InOrder rest next new
  one_done a rest now next mid new so_far ran k = let n = so_far k in let m = ran (k + n.0) in (
    n.0 + m.0,
    rises_both n.0 m.0 old mid new n.1 m.1,
    n.2 ∙ ap (λ x. and_then x (apply_all codes scene rest)) m.2 ∙ ap (λ x. apply_all codes scene rest (next x)) (sum k n.0 m.0),
  )

  pub one_failed : (went : Unit {0} → ℕ → Going) (a : Action) (rest : List Action) (now : ℕ → Going) (mid new : Option ℕ) (e : ApplyEnd) (left : ℕ)
      (traces : List ActionTrace) → InOrder (a ∷ rest) now mid → ((k : ℕ) → Follows went k mid new (apply codes scene a (now k)) (Err e) left traces) →
      (k : ℕ) → Follows went k old new (apply_all codes scene actions (start k)) (Err e) left traces
  one_failed went a rest now mid new e left traces so_far ran k = let n = so_far k in
      from_earlier went left traces k n.0 old mid new (apply_all codes scene actions (start k)) (apply_all codes scene (a ∷ rest) (now (k + n.0))) n.2 n.1 (Err e)
      (ends_so went went (apply_all codes scene rest) (k + n.0) mid new new (apply codes scene a (now (k + n.0))) e left traces (ran (k + n.0)))

  pub all_done : (went : Unit {0} → ℕ → Going) (now : ℕ → Going) (left : ℕ) (traces : List ActionTrace) (new : Option ℕ) → ((n : ℕ) → went tt n ≡ now n) → InOrder [] now new →
      (k : ℕ) → Follows went k old new (apply_all codes scene actions (start k)) (Ok tt) left traces
  all_done went now left traces new same so_far k = let n = so_far k in (n.0, n.1, n.2 ∙ ap Ok (sym (same (k + n.0))))
