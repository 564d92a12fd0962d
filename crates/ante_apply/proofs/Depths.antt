-- An action at a depth is its runs, and then what they sent, one depth further.
use Rattle.std.proofs.Common.{◌≡◌, refl, sym, ap, subst, ◌∙◌, ℕ, zero, suc, ◌+◌, ◌-◌, List, [], ◌∷◌, Option, Result, Ok, Err, arith}
use Rattle.std.proofs.Common.{◌⊎◌, inl, inr, length}
use Rattle.ante_types.specs.declared.trace.ActionTrace.{ActionTrace}
use Rattle.ante_execution.specs.declared.ends.ApplyEnd.{ApplyEnd}
use Rattle.ante_types.specs.declared.chain.Action.{Action}
use Rattle.ante_execution.specs.Actions.{Scene, Going, Failed, and_then, run_one, first_job, nothing_asked, notify, next_ordinal, in_turn, act}
use Rattle.ante_execution.specs.declared.jobs.Asked.{Asked}
use Rattle.ante_execution.specs.declared.jobs.Sender.{Sender}
use Rattle.ante_execution.specs.Runs.{Codes}
use Rattle.ante_apply.specs.Going.{all_runs, Follows}
use Rattle.ante_apply.proofs.Joining.{in_order, goes_on, ends_so}
use Rattle.ante_apply.proofs.Rounds.{InTurn}

module _ (codes : Codes) (scene : Scene) (depth : ℕ) (action : Action) (by : Sender) (g : Going) where
  -- what the runs sent, at one depth further
  abbrev pub sent : (free deeper : ℕ) → Asked × Going → Result Going Failed
  sent free deeper y = in_turn (act codes scene free deeper) y.0.inlines y.0.senders y.1

  deeper : (free : ℕ) → act codes scene (suc free) depth action by g ≡ and_then (all_runs codes scene depth action by g) (sent free (suc depth))
  deeper free = sym (in_order (run_one codes scene action (first_job action by depth) nothing_asked g)
      (λ x. notify codes scene action depth (next_ordinal g.traces) (suc x.1.left) 0 x) (sent free (suc depth)))

  one_less : (free : ℕ) → suc free - 1 ≡ free
  one_less free = omega arith

  one_more : suc depth ≡ depth + 1
  one_more = omega arith

  pub at_depth : (free : ℕ) → (free ≡ 0 → ⊥) → act codes scene free depth action by g ≡ and_then (all_runs codes scene depth action by g) (sent (free - 1) (depth + 1))
  at_depth zero n = absurd (n refl)
  at_depth (suc free) n = deeper free
      ∙ ap (λ m. and_then (all_runs codes scene depth action by g) (sent m (suc depth))) (sym (one_less free))
      ∙ ap (λ d. and_then (all_runs codes scene depth action by g) (sent (suc free - 1) d)) one_more

module _ (codes : Codes) (scene : Scene) (depth : ℕ) (action : Action) (by : Sender) (start : ℕ → Going) (free : ℕ) (more : free ≡ 0 → ⊥) (old mid : Option ℕ)
    (first : ℕ → Going) (k : ℕ) where
  abbrev whole : Result Going Failed
  whole = act codes scene free depth action by (start k)

  abbrev all : Result (Asked × Going) Failed
  all = all_runs codes scene depth action by (start k)

  abbrev then : Asked × Going → Result Going Failed
  then = sent codes scene depth action by (start k) (free - 1) (depth + 1)

  -- what follows of what was sent follows of the action
  pub after_runs : (asked : Asked) (left : ℕ) (traces : List ActionTrace) (ran : Follows {A = Asked} (λ b n. (b, first n)) k old mid all (Ok asked) left traces)
      (went : Unit {0} → ℕ → Going) (result : Result (Unit {0}) ApplyEnd) (rest : ℕ) (others : List ActionTrace) (new : Option ℕ) →
      Follows went (k + ran.0) mid new (in_turn (act codes scene (free - 1) (depth + 1)) asked.inlines asked.senders (first (k + ran.0))) result rest others →
      Follows went k old new whole result rest others
  after_runs asked left traces ran went result rest others new h =
      subst (λ d. Follows went k old new d result rest others) (sym (at_depth codes scene depth action by (start k) free more))
      (goes_on {A = Asked} {C = Unit {0}} (λ b n. (b, first n)) went then k old mid new all asked left rest traces others result ran h)

  -- runs that came to no good end are the end of the action
  pub runs_ended : (went : Unit {0} → ℕ → Going) (e : ApplyEnd) (left : ℕ) (traces : List ActionTrace) →
      Follows {A = Asked} (λ b n. (b, first n)) k old mid all (Err e) left traces → Follows went k old mid whole (Err e) left traces
  runs_ended went e left traces h =
      subst (λ d. Follows went k old mid d (Err e) left traces) (sym (at_depth codes scene depth action by (start k) free more))
      (ends_so {A = Asked} {C = Unit {0}} (λ b n. (b, first n)) went then k old mid mid all e left traces h)

module _ (does : Action → Sender → Going → Result Going Failed) (actions : List Action) (senders : List Sender) (start : ℕ → Going) (old new : Option ℕ)
    (now : ℕ → Going) (left : ℕ) (traces : List ActionTrace) (went : Unit {0} → ℕ → Going) (same : (n : ℕ) → went tt n ≡ now n) where
  -- nothing is left to be done, or nobody sent it
  none_left : (rest : List Action) (others : List Sender) (g : Going) → (rest ≡ []) ⊎ (others ≡ []) → in_turn does rest others g ≡ Ok g
  none_left [] others g h = refl
  none_left (a ∷ rest) others g (inl e) = absurd cc
  none_left (a ∷ rest) [] g (inr e) = refl
  none_left (a ∷ rest) (s ∷ others) g (inr e) = absurd cc

  pub all_done : (rest : List Action) (others : List Sender) → (rest ≡ []) ⊎ (others ≡ []) → InTurn does actions senders start old rest others now new →
      (k : ℕ) → Follows went k old new (in_turn does actions senders (start k)) (Ok tt) left traces
  all_done rest others none so_far k = let n = so_far k in
      (n.0, n.1, n.2 ∙ none_left rest others (now (k + n.0)) none ∙ ap Ok (sym (same (k + n.0))))

pub none_of : {A : Type 0} (xs : List A) → length xs ≡ 0 → xs ≡ []
none_of [] e = refl
none_of (x ∷ xs) e = absurd (omega (arith, e))
