-- A run of a valid module never gets stuck.
use Rattle.std.proofs.Common.{◌≡◌, ℕ, Bool, true, false, ◌+◌, ◌≤◌, List, [], length, Option, None, Some, refl, sym, ap, subst, ◌∙◌, arith, ⊎_elim}
use Rattle.std.proofs.lemmas.Bool.{cases_lt}
use Rattle.std.proofs.lemmas.List.{length-reverse, length-map}
use Rattle.ante_wmem.specs.Linear.{LinearMemory}
use Rattle.ante_wmem.specs.HostCalls.{HostMeaning, Keeps}
use Rattle.ante_wtree.specs.declared.instructions.ValueKind.{ValueKind}
use Rattle.ante_wtree.specs.Trees.{Tree}
use Rattle.ante_wvalid.specs.declared.kinds.ModuleRule.TheVariants as rule
use Rattle.ante_wvalid.specs.declared.kinds.InvalidKind.TheVariants as invalid
use Rattle.ante_wvalid.specs.Modules.{function_types, HasType, IsValid}
use Rattle.ante_wmeaning.specs.Environment.{Environment, after_item}
use Rattle.ante_wmeaning.specs.Configurations.{State, Outcome, Normal, Branch, Returned, Ended, Lacks, InHost, Stuck}
use Rattle.ante_wmeaning.specs.Execution.{supplied, and_then}
use Rattle.ante_wmeaning.specs.RunEnds.{NotStuck}
use Rattle.ante_wmeaning.specs.HostConditions.{MayCall, MayBelow, IsHosts, ImportsTyped}
use Rattle.ante_wmeaning.specs.Instantiation.{constant, segments_fit, program_in, apply_in}
use Rattle.ante_wtree.specs.Limits.{most_frames}
use Rattle.ante_wmeaning.specs.Invocation.{with_arguments, outset_of, where_fit, called_with, start_runs, apply_runs, both_run, run_of}
use Rattle.ante_wmeaning.specs.TypedPrograms.{IsTyped}
use Rattle.ante_wmeaning.proofs.Programs.{typed_unless}
use Rattle.ante_wmeaning.proofs.Falls.{HostFalls}
use Rattle.ante_wmeaning.proofs.Reached.{three, apply_is_own, apply_typed, apply_there}
use Rattle.ante_wmeaning.proofs.Soundness.{Fine, fine_runs, invoked_is_fine}

module _ {W R : Type 0} where
  stable : (o : Outcome W R) → ((NotStuck o → ⊥) → ⊥) → NotStuck o
  stable (Normal s) h = tt
  stable (Branch n s) h = tt
  stable (Returned s) h = tt
  stable (Ended e s) h = tt
  stable (Lacks s) h = tt
  stable (InHost f args a n s) h = tt
  stable Stuck h = h (λ x. x)

abbrev state_in : {W R : Type 0} → State W → Outcome W R → State W
state_in s (Normal t) = t
state_in s o = s

same_unless : (a b : ℕ) → ((a ≡ b → ⊥) → ⊥) → a ≡ b
same_unless a b h = ⊎_elim (λ lt. absurd (h (λ e. omega (arith, lt, e)))) (λ ge. ⊎_elim (λ lt. absurd (h (λ e. omega (arith, lt, e)))) (λ le. omega (arith, ge, le)) (cases_lt b a)) (cases_lt a b)

module _ {W R : Type 0} (host : HostMeaning W R) (allowed : W → ℕ → List ℕ → ℕ → Type 0) (m : Tree) (valid : IsValid m) (answers : ImportsTyped allowed host (program_in m))
    (keeps : (w : W) (number : ℕ) (args : List ℕ) (memory : LinearMemory) (left : ℕ) → allowed w number args left → Keeps allowed w left (host w number args memory left).reply (host w number args memory left).left)
    (falls : HostFalls host) where
  -- not stuck, and where it goes on, as many globals
  abbrev pub Safe : Outcome W R → Type 0
  Safe o = NotStuck o × ((t : State W) → o ≡ Normal t → length t.values.globals ≡ length m.globals)

  safe_unless : (o : Outcome W R) → ((Safe o → ⊥) → ⊥) → Safe o
  safe_unless o h = (stable o (λ bad. h (λ s. bad s.0)), λ t e. same_unless (length t.values.globals) (length m.globals) (λ bad. h (λ s. bad (s.1 t e))))

  fine_is_safe : (l : ℕ) (J : ℕ → ℕ → Type 0) (L : ℕ → Type 0) (k : ℕ) (o : Outcome W R) → Fine allowed (program_in m) l (length m.globals) J L k o → Safe o
  fine_is_safe l J L k o f = (fine_runs allowed (program_in m) l (length m.globals) J L k o f, λ t e. (subst (Fine allowed (program_in m) l (length m.globals) J L k) e f).0.1)

  called_safe : (args : List ℕ) (f : ℕ) (params results : List ValueKind) → HasType m.types (function_types m) f params results → length args ≡ length params → (s : State W) →
      length s.values.globals ≡ length m.globals → MayBelow allowed (program_in m) s.world s.left → (IsHosts (program_in m) f → MayCall allowed (program_in m) s.world s.left) → Safe (called_with host (program_in m) args f s)
  called_safe args f params results h n s g may here =
      safe_unless (called_with host (program_in m) args f s) (λ bad. typed_unless m valid (λ typed. bad (fine_is_safe 0 (λ j count. ⊥) (λ count. ⊥) (0 + length h.0.results) (called_with host (program_in m) args f s)
      (invoked_is_fine host allowed m (program_in m) typed answers keeps falls most_frames f h.0 h.1 (with_arguments args s) 0 g may here
      (let p = ap length h.2 in omega (arith, n, p, length-reverse args))))))

  pub start_safe : (s : State W) → length s.values.globals ≡ length m.globals → MayBelow allowed (program_in m) s.world s.left → MayCall allowed (program_in m) s.world s.left → Safe (start_runs host (program_in m) m.start s)
  start_safe s g may here = by_start m.start refl
    where
      by_start : (o : Option ℕ) → m.start ≡ o → Safe (start_runs host (program_in m) o s)
      by_start None q = (tt, λ t e. ap (λ u. length u.values.globals) (sym (ap (state_in s) e)) ∙ g)
      by_start (Some f) q = safe_unless (called_with host (program_in m) [] f s)
          (λ bad. valid (invalid.Rule rule.Start) (f, q, λ h. bad (called_safe [] f [] [] h refl s g may (λ hosts. here))))

  pub apply_safe : (args : List ℕ) → length args ≡ 3 → (s : State W) → length s.values.globals ≡ length m.globals → MayBelow allowed (program_in m) s.world s.left → NotStuck (apply_runs host (program_in m) (apply_in m) args s)
  apply_safe args n s g may = by_apply (apply_in m) refl
    where
      by_apply : (o : Option ℕ) → apply_in m ≡ o → NotStuck (apply_runs host (program_in m) o args s)
      by_apply None q = absurd (apply_there m valid q)
      by_apply (Some f) q = stable (called_with host (program_in m) args f s)
          (λ bad. apply_typed m valid f q (λ h. bad (called_safe args f three [] h n s g may (λ hosts. absurd (apply_is_own m valid f q hosts))).0))

  -- ---- both functions

  abbrev GoesOn : Outcome W R → Type 0
  GoesOn o = NotStuck o × ((t : State W) → o ≡ Normal t → (length t.values.globals ≡ length m.globals) × MayBelow allowed (program_in m) t.world t.left)

  start_goes : IsTyped m (program_in m) → (s : State W) → length s.values.globals ≡ length m.globals → MayBelow allowed (program_in m) s.world s.left → MayCall allowed (program_in m) s.world s.left →
      (o : Option ℕ) → m.start ≡ o → (GoesOn (start_runs host (program_in m) o s) → ⊥) → ⊥
  start_goes typed s g may here None q bad =
      bad (tt, λ t e. subst (λ u. (length u.values.globals ≡ length m.globals) × MayBelow allowed (program_in m) u.world u.left) (ap (state_in s) e) (g, may))
  start_goes typed s g may here (Some f) q bad = valid (invalid.Rule rule.Start) (
    f,
    q,
    λ h.
        let k = 0 + length h.0.results in
        let o = called_with host (program_in m) [] f s in
        let fine : Fine allowed (program_in m) 0 (length m.globals) (λ n count. ⊥) (λ count. ⊥) k o =
        invoked_is_fine host allowed m (program_in m) typed answers keeps falls most_frames f h.0 h.1 (with_arguments [] s) 0 g may (λ hosts. here) (let p = ap length h.2 in omega (arith, p)) in
        bad (
          fine_runs allowed (program_in m) 0 (length m.globals) (λ n count. ⊥) (λ count. ⊥) k o fine,
          λ t e. let at = subst (Fine allowed (program_in m) 0 (length m.globals) (λ n count. ⊥) (λ count. ⊥) k) e fine in (at.0.1, at.0.2),
        ),
  )

  then_runs : (o : Outcome W R) (go : State W → Outcome W R) → NotStuck o → ((t : State W) → o ≡ Normal t → NotStuck (go t)) → NotStuck (and_then o go)
  then_runs (Normal s) go h next = next s refl
  then_runs (Branch n s) go h next = tt
  then_runs (Returned s) go h next = tt
  then_runs (Ended e s) go h next = tt
  then_runs (Lacks s) go h next = tt
  then_runs (InHost f args a n s) go h next = tt
  then_runs Stuck go h next = h

  pub whole_safe : ((w : W) (number : ℕ) (args : List ℕ) (left less : ℕ) → less ≤ left → allowed w number args left → allowed w number args less) →
      (args : List ℕ) → length args ≡ 3 → (w : W) (left : ℕ) (environment : Environment) → MayCall allowed (program_in m) w left → NotStuck (run_of host m args w left environment)
  whole_safe lower args n w left environment here = by_supply (environment.item_lacks environment.items)
    where
      may : MayBelow allowed (program_in m) w left
      may = λ less lt kind number xs given fit. let le : less ≤ left = omega (arith, lt) in lower w number xs left less le (here kind number xs given fit)

      go : State W → Outcome W R
      go = both_run host (program_in m) m args

      begun : State W
      begun = record (outset_of m w left environment) { environment = after_item environment }

      globals : length begun.values.globals ≡ length m.globals
      globals = length-map m.globals (λ x. constant x.init)

      both : NotStuck (go begun)
      both = stable (go begun) (λ bad. typed_unless m valid (λ typed. start_goes typed begun globals may here m.start refl
          (λ goes. bad (then_runs (start_runs host (program_in m) m.start begun) (apply_runs host (program_in m) (apply_in m) args) goes.0
          (λ t e. let at = goes.1 t e in apply_safe args n t at.0 at.1)))))

      by_fit : (b : Bool) → NotStuck (where_fit b go begun)
      by_fit true = both
      by_fit false = tt

      by_supply : (b : Bool) → NotStuck (supplied b (outset_of m w left environment) (where_fit (segments_fit m) go))
      by_supply true = tt
      by_supply false = by_fit (segments_fit m)
