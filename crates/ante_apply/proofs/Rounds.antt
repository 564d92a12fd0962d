-- The loops over recipients and over what was sent: what is left of the definition after some rounds.
use Rattle.std.proofs.Common.{◌≡◌, sym, ap, subst, ◌∙◌, ℕ, zero, suc, ◌+◌, ◌<◌, List, ◌∷◌, Option, None, Some, Result, Ok, Err, arith}
use Rattle.std.specs.Prelude.{slice_get, slice_index_or}
use Rattle.ante_base.specs.Stops.{Rises}
use Rattle.ante_pack.specs.declared.names.Name.{Name}
use Rattle.ante_types.specs.declared.chain.Action.{Action}
use Rattle.ante_types.specs.declared.trace.ActionTrace.{ActionTrace}
use Rattle.ante_calls.specs.Accounts.{no_name}
use Rattle.ante_execution.specs.Actions.{Scene, Going, Failed, and_then, run_one, notice, recipient_of, notify_at, notify, in_turn}
use Rattle.ante_execution.specs.declared.ends.ApplyEnd.{ApplyEnd}
use Rattle.ante_execution.specs.declared.jobs.Asked.{Asked}
use Rattle.ante_execution.specs.declared.jobs.Sender.{Sender}
use Rattle.ante_execution.specs.Runs.{Codes}
use Rattle.ante_apply.specs.Going.{Follows}
use Rattle.ante_apply.proofs.Joining.{sum, from_earlier, ends_so}
use Rattle.ante_apply.proofs.Stops.{rises_both, rises_none}

one_more : (n : ℕ) → suc n ≡ n + 1
one_more n = omega arith

-- ---- recipients

module _ (codes : Codes) (scene : Scene) (action : Action) (depth creator : ℕ) where
  abbrev rounds : (most place : ℕ) → Asked × Going → Result (Asked × Going) Failed
  rounds = notify codes scene action depth creator

  abbrev at : Asked → (place : ℕ) → Option (Name × Name)
  at asked place = recipient_of (slice_get asked.recipients place) (slice_index_or asked.namers place no_name)

  abbrev runs : Asked → Going → Name × Name → Result (Asked × Going) Failed
  runs asked g r = run_one codes scene action (notice depth creator r.0 r.1) asked g

  step : (rest place : ℕ) (asked : Asked) (g : Going) (r : Name × Name) → at asked place ≡ Some r →
      rounds (suc rest) place (asked, g) ≡ and_then (runs asked g r) (rounds rest (suc place))
  step rest place asked g r e = ap (λ o. notify_at codes scene action depth creator o (asked, g) (rounds rest (suc place))) e

  done : (rest place : ℕ) (asked : Asked) (g : Going) → at asked place ≡ None → rounds (suc rest) place (asked, g) ≡ Ok (asked, g)
  done rest place asked g e = ap (λ o. notify_at codes scene action depth creator o (asked, g) (rounds rest (suc place))) e

  module _ (before : Asked) (start : ℕ → Going) (from : ℕ) (old : Option ℕ) where
    -- what is left is what the recipients from this place on come to, with some looks made
    abbrev pub Notified : Asked → (place : ℕ) → (now : ℕ → Going) → (left : ℕ) → (new : Option ℕ) → Type 0
    Notified asked place now left new = (k most : ℕ) → from < most →
        (n : ℕ) × (rest : ℕ) × Rises n old new × (left < rest) × (rounds most 0 (before, start k) ≡ rounds rest place (asked, now (k + n)))

    pub none_notified : Notified before 0 start from old
    none_notified k most lt = (0, most, rises_none old, lt, ap (λ x. rounds most 0 (before, start x)) (omega arith))

    module _ (asked : Asked) (place : ℕ) (now : ℕ → Going) (left : ℕ) (mid : Option ℕ) (r : Name × Name) (is : at asked place ≡ Some r)
        (so_far : Notified asked place now left mid) where
      pub one_notified : (after : Asked) (next : ℕ → Going) (rest : ℕ) (new : Option ℕ) → rest < left →
          ((k : ℕ) → (m : ℕ) × Rises m mid new × (runs asked (now k) r ≡ Ok (after, next (k + m)))) → Notified after (place + 1) next rest new
      one_notified after next rest new lt ran k most from_lt = subst
          (λ p. (n : ℕ) × (over : ℕ) × Rises n old new × (rest < over) × (rounds most 0 (before, start k) ≡ rounds over p (after, next (k + n)))) (one_more place)
          (by_rest (so_far k most from_lt))
        where
          by_rest : (n : ℕ) × (over : ℕ) × Rises n old mid × (left < over) × (rounds most 0 (before, start k) ≡ rounds over place (asked, now (k + n))) →
              (n : ℕ) × (over : ℕ) × Rises n old new × (rest < over) × (rounds most 0 (before, start k) ≡ rounds over (suc place) (after, next (k + n)))
          by_rest (n, zero, rises, less, same) = absurd (omega (arith, less))
          by_rest (n, suc over, rises, less, same) = let ran_at = ran (k + n) in (
            n + ran_at.0,
            over,
            rises_both n ran_at.0 old mid new rises ran_at.1,
            omega (arith, less, lt),
            same ∙ step over place asked (now (k + n)) r is ∙ ap (λ x. and_then x (rounds over (suc place))) ran_at.2
                ∙ ap (λ x. rounds over (suc place) (after, next x)) (sum k n ran_at.0),
          )

      pub one_ended : (went : Asked → ℕ → Asked × Going) (e : ApplyEnd) (rest : ℕ) (traces : List ActionTrace) (new : Option ℕ) →
          ((k : ℕ) → Follows went k mid new (runs asked (now k) r) (Err e) rest traces) →
          (k most : ℕ) → from < most → Follows went k old new (rounds most 0 (before, start k)) (Err e) rest traces
      one_ended went e rest traces new ran k most from_lt = by_rest (so_far k most from_lt)
        where
          by_rest : (n : ℕ) × (over : ℕ) × Rises n old mid × (left < over) × (rounds most 0 (before, start k) ≡ rounds over place (asked, now (k + n))) →
              Follows went k old new (rounds most 0 (before, start k)) (Err e) rest traces
          by_rest (n, zero, rises, less, same) = absurd (omega (arith, less))
          by_rest (n, suc over, rises, less, same) =
              from_earlier went rest traces k n old mid new (rounds most 0 (before, start k)) (and_then (runs asked (now (k + n)) r) (rounds over (suc place)))
              (same ∙ step over place asked (now (k + n)) r is) rises (Err e)
              (ends_so went went (rounds over (suc place)) (k + n) mid new new (runs asked (now (k + n)) r) e rest traces (ran (k + n)))

    pub all_notified : (went : Asked → ℕ → Asked × Going) (asked : Asked) (place : ℕ) (now : ℕ → Going) (left : ℕ) (traces : List ActionTrace) (new : Option ℕ) →
        ((n : ℕ) → went asked n ≡ (asked, now n)) → at asked place ≡ None → Notified asked place now left new →
        (k most : ℕ) → from < most → Follows went k old new (rounds most 0 (before, start k)) (Ok asked) left traces
    all_notified went asked place now left traces new same_at is so_far k most from_lt = by_rest (so_far k most from_lt)
      where
        by_rest : (n : ℕ) × (over : ℕ) × Rises n old new × (left < over) × (rounds most 0 (before, start k) ≡ rounds over place (asked, now (k + n))) →
            Follows went k old new (rounds most 0 (before, start k)) (Ok asked) left traces
        by_rest (n, zero, rises, less, same) = absurd (omega (arith, less))
        by_rest (n, suc over, rises, less, same) = (n, rises, same ∙ done over place asked (now (k + n)) is ∙ ap Ok (sym (same_at (k + n))))

-- ---- what was sent

module _ (does : Action → Sender → Going → Result Going Failed) (actions : List Action) (senders : List Sender) (start : ℕ → Going) (old : Option ℕ) where
  abbrev pub InTurn : List Action → List Sender → (now : ℕ → Going) → (new : Option ℕ) → Type 0
  InTurn rest others now new = (k : ℕ) → (n : ℕ) × Rises n old new × (in_turn does actions senders (start k) ≡ in_turn does rest others (now (k + n)))

  pub none_done : InTurn actions senders start old
  none_done k = (0, rises_none old, ap (λ x. in_turn does actions senders (start x)) (omega arith))

  pub one_done : (a : Action) (rest : List Action) (s : Sender) (others : List Sender) (now next : ℕ → Going) (mid new : Option ℕ) →
      InTurn (a ∷ rest) (s ∷ others) now mid → ((k : ℕ) → (m : ℕ) × Rises m mid new × (does a s (now k) ≡ Ok (next (k + m)))) → InTurn rest others next new
  one_done a rest s others now next mid new so_far ran k = let n = so_far k in let m = ran (k + n.0) in (
    n.0 + m.0,
    rises_both n.0 m.0 old mid new n.1 m.1,
    n.2 ∙ ap (λ x. and_then x (in_turn does rest others)) m.2 ∙ ap (λ x. in_turn does rest others (next x)) (sum k n.0 m.0),
  )

  pub one_failed : (went : Unit {0} → ℕ → Going) (a : Action) (rest : List Action) (s : Sender) (others : List Sender) (now : ℕ → Going) (mid new : Option ℕ) (e : ApplyEnd)
      (left : ℕ) (traces : List ActionTrace) → InTurn (a ∷ rest) (s ∷ others) now mid → ((k : ℕ) → Follows went k mid new (does a s (now k)) (Err e) left traces) →
      (k : ℕ) → Follows went k old new (in_turn does actions senders (start k)) (Err e) left traces
  one_failed went a rest s others now mid new e left traces so_far ran k = let n = so_far k in
      from_earlier went left traces k n.0 old mid new (in_turn does actions senders (start k)) (in_turn does (a ∷ rest) (s ∷ others) (now (k + n.0))) n.2 n.1 (Err e)
      (ends_so went went (in_turn does rest others) (k + n.0) mid new new (does a s (now (k + n.0))) e left traces (ran (k + n.0)))
