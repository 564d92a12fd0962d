-- What a run answers, from what was asked of its environment while it lasted.
use Rattle.std.proofs.Common.{◌≡◌, ◌⊎◌, inl, inr, ℕ, zero, suc, ◌+◌, ◌-◌, ◌<◌, List, [], ◌∷◌, ◌++◌, length, replicate, Option, None, Some, Result, Ok, Err, refl, sym, ap, subst, ◌∙◌, arith}
use Rattle.std.specs.Prelude.{IfOk}
use Rattle.std.specs.declared.alloc.AllocError.{AllocError}
use Rattle.ante_base.specs.Stops.{Looks, Rises}
use Rattle.ante_base.specs.LookCounts.{Looks-rise}
use Rattle.ante_wmem.specs.Linear.{LinearMemory}
use Rattle.ante_wmem.specs.HostCalls.{Reply, value, nothing, exit, refused, step_limit, HostMeaning}
use Rattle.ante_wmem.specs.declared.host.HostAnswer.{HostAnswer}
use Rattle.ante_wmem.specs.declared.host.HostAnswer.TheVariants as answer
use Rattle.ante_wtree.specs.Trees.{Tree}
use Rattle.ante_wmeaning.specs.declared.ends.RunEnd.{RunEnd}
use Rattle.ante_wmeaning.specs.declared.ends.RunEnd.TheVariants as end
use Rattle.ante_wmeaning.specs.Environment.{Environment, undisturbed, calm_from, after_look, after_item, after_call, Event, Looked, Supplied, CallSupplied, Begins, past, looks_of, ByEvents, CountsLooks, Passes, AskedLast}
use Rattle.ante_wmeaning.specs.Configurations.{Outcome, Normal, Branch, Returned, Ended, Lacks, InHost, Stuck}
use Rattle.ante_wmeaning.specs.Invocation.{run_of}
use Rattle.ante_wmeaning.specs.RunEnds.{Ends, Lacking, RunAnswers, EndsWith, Uncut, Comes}
use Rattle.ante_wmeaning.specs.Likeness.{SameReply, ReplyAlike, SameOutcome, CutEnd, Disturbed, EndsLike, EndsLikeSo, Remains, AnswersLike}
use Rattle.ante_wmeaning.proofs.Starts.{nth, start_of, start_begins}
use Rattle.ante_wmeaning.proofs.Falls.{LimitLeaves, Lowers}
use Rattle.ante_wmeaning.proofs.Looking.{Unasked, LooksOf, Quiet}
use Rattle.ante_wmeaning.proofs.Likeness.{run_alike, run_undisturbed}

-- ---- what the events make of an environment

looks_past : (v : Environment) (events : List Event) → (past v events).looks ≡ v.looks + length (looks_of events)
looks_past v [] = omega arith
looks_past v (Looked a ∷ es) = looks_past (after_look v) es ∙ one_more v.looks (length (looks_of es))
  where
    one_more : (m n : ℕ) → suc m + n ≡ m + suc n
    one_more m n = omega arith
looks_past v (Supplied ∷ es) = looks_past (after_item v) es
looks_past v (CallSupplied ∷ es) = looks_past (after_call v) es

answers_past : (v : Environment) (events : List Event) → (past v events).look_answer ≡ v.look_answer
answers_past v [] = refl
answers_past v (Looked a ∷ es) = answers_past (after_look v) es
answers_past v (Supplied ∷ es) = answers_past (after_item v) es
answers_past v (CallSupplied ∷ es) = answers_past (after_call v) es

between : (m n k : ℕ) → k ≡ m + n → k - m ≡ n
between m n k e = omega arith

pub counted : {S : Type 0} (may : S → Option ℕ → S → Type 0) (looks : S → Option ℕ) →
    ((old : S) (answer : Option ℕ) (new : S) → may old answer new → Rises 1 (looks old) (looks new)) →
    (events : List Event) (old new : S) → Looks may old (looks_of events) new → (v : Environment) → CountsLooks (looks old) (looks new) v (past v events)
counted may looks law events old new h v =
    subst (λ n. Rises n (looks old) (looks new)) (sym (between v.looks (length (looks_of events)) (past v events).looks (looks_past v events)))
    (Looks-rise may looks law (looks_of events) old new h)

-- ---- looks that didn't ask

all_none : (xs : List (Option ℕ)) → ((k : ℕ) → k < length xs → nth xs k ≡ None) → xs ≡ replicate (length xs) None
all_none [] h = refl
all_none (a ∷ xs) h =
    let first : a ≡ None = h zero (omega arith) in
    let rest : xs ≡ replicate (length xs) None = all_none xs (λ k lt. h (suc k) (omega (arith, lt))) in
    ap (λ b. b ∷ xs) first ∙ ap (λ ys. None ∷ ys) rest

last_asks : (xs : List (Option ℕ)) (k at : ℕ) → length xs ≡ suc k → nth xs k ≡ Some at → ((j : ℕ) → j < k → nth xs j ≡ None) → xs ≡ replicate k None ++ Some at ∷ []
last_asks [] k at n e h = absurd (omega (arith, n))
last_asks (a ∷ []) zero at n e h = ap (λ b. b ∷ []) e
last_asks (a ∷ b ∷ xs) zero at n e h = absurd (omega (arith, n))
last_asks (a ∷ xs) (suc k) at n e h =
    let first : a ≡ None = h zero (omega arith) in
    let rest : xs ≡ replicate k None ++ Some at ∷ [] = last_asks xs k at (omega (arith, n)) e (λ j lt. h (suc j) (omega (arith, lt))) in
    ap (λ b. b ∷ xs) first ∙ ap (λ ys. None ∷ ys) rest

module _ {S : Type 0} (may : S → Option ℕ → S → Type 0) where
  split_looks : (xs ys : List (Option ℕ)) (old new : S) → Looks may old (xs ++ ys) new → (mid : S) × Looks may old xs mid × Looks may mid ys new
  split_looks [] ys old new h = (old, refl, h)
  split_looks (x ∷ xs) ys old new h = let r = split_looks xs ys h.0 new h.2 in (r.0, (h.0, h.1, r.1), r.2)

  passes : (events : List Event) (old new : S) → Looks may old (looks_of events) new → Unasked (past (start_of events) events) (past (start_of events) events).looks → Passes may old new
  passes events old new h q =
      let xs = looks_of events in
      let count : (past (start_of events) events).looks ≡ length xs = looks_past (start_of events) events ∙ plain (length xs) in
      let none = all_none xs (λ k lt. ap (λ (f : ℕ → Option ℕ). f k) (sym (answers_past (start_of events) events)) ∙ q k (subst (λ n. k < n) (sym count) lt)) in
      (length xs, subst (λ ys. Looks may old ys new) none h)
    where
      plain : (n : ℕ) → 0 + n ≡ n
      plain n = omega arith

  asked_last : (events : List Event) (old new : S) (at : ℕ) → Looks may old (looks_of events) new → LooksOf {R = ℕ} (end.Cut at) (past (start_of events) events) → AskedLast may old at new
  asked_last events old new at h q =
      let xs = looks_of events in
      let same = answers_past (start_of events) events in
      let count : length xs ≡ suc q.0 = counts (length xs) (past (start_of events) events).looks (suc q.0) (looks_past (start_of events) events) q.1 in
      let list = last_asks xs q.0 at count (ap (λ (f : ℕ → Option ℕ). f q.0) (sym same) ∙ q.2) (λ j lt. ap (λ (f : ℕ → Option ℕ). f j) (sym same) ∙ q.3 j lt) in
      let r = split_looks (replicate q.0 None) (Some at ∷ []) old new (subst (λ ys. Looks may old ys new) list h) in
      (r.0, (q.0, r.1), subst (λ x. may r.0 (Some at) x) (sym r.2.2) r.2.1)
    where
      counts : (n m k : ℕ) → m ≡ 0 + n → m ≡ k → n ≡ k
      counts n m k e f = omega (arith, e, f)

-- ---- from the outcome of the run

module _ {W R : Type 0} (stands : W → ℕ → List ℕ → LinearMemory → ℕ → HostAnswer R → W → Type 0) where
  looked : (e : RunEnd R) (w : W) (left : ℕ) (u : Environment) (o : Outcome W R) → Ends stands e w left u o → Quiet o → LooksOf e u
  looked e w left u (Normal s) h q = subst (λ x. LooksOf x u) (sym h.0) (subst (λ x. Unasked x x.looks) h.3 q)
  looked e w left u (Branch n s) h q = absurd h
  looked e w left u (Returned s) h q = absurd h
  looked e w left u (Ended f s) h q = subst (λ x. LooksOf x u) (sym h.0) (subst (LooksOf f) h.3 q)
  looked e w left u (Lacks s) h q = absurd h
  looked e w left u (InHost f args (answer.Value n) after s) h q = absurd h
  looked e w left u (InHost f args answer.Nothing after s) h q = absurd h
  looked e w left u (InHost f args answer.Exit after s) h q = absurd h
  looked e w left u (InHost f args (answer.Refused r) after s) h q = subst (λ x. LooksOf x u) (sym h.0) (subst (λ x. Unasked x x.looks) h.3 q)
  looked e w left u (InHost f args answer.StepLimit after s) h q = subst (λ x. LooksOf x u) (sym h.0) (subst (λ x. Unasked x x.looks) h.3 q)
  looked e w left u (InHost f args answer.OutOfMemory after s) h q = absurd h
  looked e w left u Stuck h q = absurd h

  lacked : (w : W) (left : ℕ) (u : Environment) (o : Outcome W R) → Lacking stands w left u o → Quiet o → Unasked u u.looks
  lacked w left u (Normal s) h q = absurd h
  lacked w left u (Branch n s) h q = absurd h
  lacked w left u (Returned s) h q = absurd h
  lacked w left u (Ended f s) h q = absurd h
  lacked w left u (Lacks s) h q = subst (λ x. Unasked x x.looks) h.2 q
  lacked w left u (InHost f args (answer.Value n) after s) h q = absurd h
  lacked w left u (InHost f args answer.Nothing after s) h q = absurd h
  lacked w left u (InHost f args answer.Exit after s) h q = absurd h
  lacked w left u (InHost f args (answer.Refused r) after s) h q = absurd h
  lacked w left u (InHost f args answer.StepLimit after s) h q = absurd h
  lacked w left u (InHost f args answer.OutOfMemory after s) h q = subst (λ x. Unasked x x.looks) h.2 q
  lacked w left u Stuck h q = absurd h

  limited : (w : W) (left : ℕ) (u : Environment) (n : ℕ) (o : Outcome W R) → Ends stands end.StepLimit w left u o → Lowers n o → left ≡ 0
  limited w left u n (Normal s) h low = absurd (not_done end.StepLimit refl h.0)
    where
      not_done : (x : RunEnd R) → x ≡ end.StepLimit → x ≡ end.Done → ⊥
      not_done x e f = cc
  limited w left u n (Branch k s) h low = absurd h
  limited w left u n (Returned s) h low = absurd h
  limited w left u n (Ended f s) h low = sym h.2 ∙ subst (λ x. LimitLeaves x s.left) (sym h.0) low
  limited w left u n (Lacks s) h low = absurd h
  limited w left u n (InHost f args (answer.Value k) after s) h low = absurd h
  limited w left u n (InHost f args answer.Nothing after s) h low = absurd h
  limited w left u n (InHost f args answer.Exit after s) h low = absurd h
  limited w left u n (InHost f args (answer.Refused r) after s) h low = absurd (not_refused r h.0)
    where
      not_refused : (r : R) → end.StepLimit ≡ end.Refused r → ⊥
      not_refused r e = cc
  limited w left u n (InHost f args answer.StepLimit after s) h low = h.2
  limited w left u n (InHost f args answer.OutOfMemory after s) h low = absurd h
  limited w left u n Stuck h low = absurd h

  -- ---- a run, by its events

  module _ {S : Type 0} (may : S → Option ℕ → S → Type 0) (old new : S) (F : Environment → Outcome W R) (w : W) (left : ℕ) where
    abbrev Answered : Result (RunEnd R) AllocError → Type 0
    Answered result = ByEvents may old new (λ events. (v : Environment) → Begins v events → RunAnswers stands (F v) result w left (past v events))

    pub comes : (result : Result (RunEnd R) AllocError) → Answered result → Comes stands F result w left
    comes (Ok e) h = (start_of h.0, refl, past (start_of h.0) h.0, h.2 (start_of h.0) (start_begins h.0).0)
    comes (Err e) h = (start_of h.0, refl, past (start_of h.0) h.0, h.2 (start_of h.0) (start_begins h.0).0 (start_begins h.0).1)

    pub cuts : ((v : Environment) → v.looks ≡ 0 → Quiet (F v)) → (result : Result (RunEnd R) AllocError) (at : ℕ) → result ≡ Ok (end.Cut at) → Answered result → AskedLast may old at new
    cuts quiet result at is h =
        let k = subst Answered is h in
        asked_last may k.0 old new at k.1 (looked (end.Cut at) w left (past (start_of k.0) k.0) (F (start_of k.0)) (k.2 (start_of k.0) (start_begins k.0).0) (quiet (start_of k.0) refl))

    pub uncut : ((v : Environment) → v.looks ≡ 0 → Quiet (F v)) → (result : Result (RunEnd R) AllocError) → Uncut result → Answered result → Passes may old new
    uncut quiet (Err e) not h =
        passes may h.0 old new h.1 (lacked w left (past (start_of h.0) h.0) (F (start_of h.0)) (h.2 (start_of h.0) (start_begins h.0).0 (start_begins h.0).1) (quiet (start_of h.0) refl))
    uncut quiet (Ok e) not h = passes may h.0 old new h.1
        (unasked e (λ at is. not at (ap Ok is)) (past (start_of h.0) h.0) (looked e w left (past (start_of h.0) h.0) (F (start_of h.0)) (h.2 (start_of h.0) (start_begins h.0).0) (quiet (start_of h.0) refl)))
      where
        unasked : (e : RunEnd R) → ((at : ℕ) → e ≡ end.Cut at → ⊥) → (u : Environment) → LooksOf e u → Unasked u u.looks
        unasked (end.Cut at) n u q = absurd (n at refl)
        unasked end.Done n u q = q
        unasked end.Exit n u q = q
        unasked (end.Trap kind) n u q = q
        unasked end.StepLimit n u q = q
        unasked end.CallDepth n u q = q
        unasked (end.Refused r) n u q = q

    pub limit : (n : ℕ) → ((v : Environment) → Lowers n (F v)) → (result : Result (RunEnd R) AllocError) → result ≡ Ok end.StepLimit → Answered result → left ≡ 0
    limit n low result is h =
        let k = subst Answered is h in
        limited w left (past (start_of k.0) k.0) n (F (start_of k.0)) (k.2 (start_of k.0) (start_begins k.0).0) (low (start_of k.0))

-- ---- over a host that replies alike

module _ {V W R : Type 0} (Like : V → W → Type 0) (stands : V → ℕ → List ℕ → LinearMemory → ℕ → HostAnswer R → V → Type 0) where
  is_cut : (f : RunEnd R) (v : V) → CutEnd {R = R} Like f v → (at : ℕ) × (f ≡ end.Cut at)
  is_cut (end.Cut at) v h = (at, refl)
  is_cut end.Done v h = absurd h
  is_cut end.Exit v h = absurd h
  is_cut (end.Trap kind) v h = absurd h
  is_cut end.StepLimit v h = absurd h
  is_cut end.CallDepth v h = absurd h
  is_cut (end.Refused r) v h = absurd h

  ends_like : (e : RunEnd R) → ((at : ℕ) → e ≡ end.Cut at → ⊥) → (v : V) (left : ℕ) (u : Environment) (o : Outcome V R) (p : Outcome W R) → Ends stands e v left u o →
      Disturbed Like o ⊎ SameOutcome calm_from Like o p → EndsLike Like stands e v left (calm_from u) p
  ends_like e n v left u (Normal s) p h (inl d) = absurd d
  ends_like e n v left u (Normal s) p h (inr (w, l, q)) = subst (EndsLike Like stands e v left (calm_from u)) (sym q) (h.0, subst (λ x. Like x w) h.1 l, h.2, ap calm_from h.3)
  ends_like e n v left u (Branch k s) p h r = absurd h
  ends_like e n v left u (Returned s) p h r = absurd h
  ends_like e n v left u (Ended f s) p h (inl d) = let c = is_cut f s.world d in absurd (n c.0 (h.0 ∙ c.1))
  ends_like e n v left u (Ended f s) p h (inr (w, l, q)) = subst (EndsLike Like stands e v left (calm_from u)) (sym q) (h.0, subst (λ x. Like x w) h.1 l, h.2, ap calm_from h.3)
  ends_like e n v left u (Lacks s) p h r = absurd h
  ends_like e n v left u (InHost f args (answer.Value k) after s) p h r = absurd h
  ends_like e n v left u (InHost f args answer.Nothing after s) p h r = absurd h
  ends_like e n v left u (InHost f args answer.Exit after s) p h r = absurd h
  ends_like e n v left u (InHost f args (answer.Refused x) after s) p h (inl d) = absurd d
  ends_like e n v left u (InHost f args (answer.Refused x) after s) p h (inr (w, l, q)) = subst (EndsLike Like stands e v left (calm_from u)) (sym q) (h.0, (s.world, l, h.1), h.2, ap calm_from h.3)
  ends_like e n v left u (InHost f args answer.StepLimit after s) p h (inl d) = absurd d
  ends_like e n v left u (InHost f args answer.StepLimit after s) p h (inr (w, l, q)) = subst (EndsLike Like stands e v left (calm_from u)) (sym q) (h.0, (s.world, l, h.1), h.2, ap calm_from h.3)
  ends_like e n v left u (InHost f args answer.OutOfMemory after s) p h r = absurd h
  ends_like e n v left u Stuck p h r = absurd h

  cut_remains : (at : ℕ) (v : V) (left : ℕ) (u : Environment) (o : Outcome V R) (p : Outcome W R) → Ends stands (end.Cut at) v left u o → SameOutcome (λ x. x) Like o p → Remains Like stands v
  cut_remains at v left u (Normal s) p h r = inl (r.0, subst (λ x. Like x r.0) h.1 r.1)
  cut_remains at v left u (Branch k s) p h r = absurd h
  cut_remains at v left u (Returned s) p h r = absurd h
  cut_remains at v left u (Ended f s) p h r = inl (r.0, subst (λ x. Like x r.0) h.1 r.1)
  cut_remains at v left u (Lacks s) p h r = absurd h
  cut_remains at v left u (InHost f args (answer.Value k) after s) p h r = absurd h
  cut_remains at v left u (InHost f args answer.Nothing after s) p h r = absurd h
  cut_remains at v left u (InHost f args answer.Exit after s) p h r = absurd h
  cut_remains at v left u (InHost f args (answer.Refused x) after s) p h r = absurd (not_refused (end.Cut at) refl h.0)
    where
      not_refused : (y : RunEnd R) → y ≡ end.Cut at → y ≡ end.Refused x → ⊥
      not_refused y e f = cc
  cut_remains at v left u (InHost f args answer.StepLimit after s) p h r = absurd (not_limit (end.Cut at) refl h.0)
    where
      not_limit : (x : RunEnd R) → x ≡ end.Cut at → x ≡ end.StepLimit → ⊥
      not_limit x e f = cc
  cut_remains at v left u (InHost f args answer.OutOfMemory after s) p h r = absurd h
  cut_remains at v left u Stuck p h r = absurd h

  lack_remains : (v : V) (left : ℕ) (u : Environment) (o : Outcome V R) (p : Outcome W R) → Lacking stands v left u o → SameOutcome (λ x. x) Like o p → Remains Like stands v
  lack_remains v left u (Normal s) p h r = absurd h
  lack_remains v left u (Branch k s) p h r = absurd h
  lack_remains v left u (Returned s) p h r = absurd h
  lack_remains v left u (Ended f s) p h r = absurd h
  lack_remains v left u (Lacks s) p h r = inl (r.0, subst (λ x. Like x r.0) h.0 r.1)
  lack_remains v left u (InHost f args (answer.Value k) after s) p h r = absurd h
  lack_remains v left u (InHost f args answer.Nothing after s) p h r = absurd h
  lack_remains v left u (InHost f args answer.Exit after s) p h r = absurd h
  lack_remains v left u (InHost f args (answer.Refused x) after s) p h r = absurd h
  lack_remains v left u (InHost f args answer.StepLimit after s) p h r = absurd h
  lack_remains v left u (InHost f args answer.OutOfMemory after s) p h r = inr (r.0, f, args, s.values.memory, s.left, (s.world, r.1, h.0))
  lack_remains v left u Stuck p h r = absurd h

  module _ (one : HostMeaning V R) (other : HostMeaning W R) (alike : ReplyAlike Like one other) (m : Tree) (args : List ℕ) (v : V) (w : W) (left : ℕ) (like : Like v w) where
    abbrev pure : Outcome W R
    pure = run_of other m args w left undisturbed

    follows : (environment : Environment) → calm_from environment ≡ undisturbed → Disturbed Like (run_of one m args v left environment) ⊎ SameOutcome calm_from Like (run_of one m args v left environment) pure
    follows environment calm =
        subst (λ x. Disturbed Like (run_of one m args v left environment) ⊎ SameOutcome calm_from Like (run_of one m args v left environment) (run_of other m args w left x)) calm
        (run_undisturbed Like one other alike m args v w left environment like)

    so : (e : RunEnd R) → ((at : ℕ) → e ≡ end.Cut at → ⊥) → (v' : V) (left' : ℕ) → Comes stands (λ (x : Environment). run_of one m args v left x) (Ok e) v' left' → EndsLikeSo Like stands e v' left' pure
    so e n v' left' h = (calm_from h.2, ends_like e n v' left' h.2 (run_of one m args v left h.0) pure h.3 (follows h.0 h.1))

    -- What a run answers, from the outcome of the undisturbed run over a host that replies alike.
    pub answers_like : (result : Result (RunEnd R) AllocError) (v' : V) (left' : ℕ) → Comes stands (λ (x : Environment). run_of one m args v left x) result v' left' → AnswersLike Like stands pure result v' left'
    answers_like (Ok (end.Cut at)) v' left' h = cut_remains at v' left' h.2 (run_of one m args v left h.0) (run_of other m args w left h.0) h.3 (run_alike Like one other alike m args v w left h.0 like)
    answers_like (Ok end.Done) v' left' h = so end.Done (λ at e. cc) v' left' h
    answers_like (Ok end.Exit) v' left' h = so end.Exit (λ at e. cc) v' left' h
    answers_like (Ok (end.Trap kind)) v' left' h = so (end.Trap kind) (λ at e. cc) v' left' h
    answers_like (Ok end.StepLimit) v' left' h = so end.StepLimit (λ at e. cc) v' left' h
    answers_like (Ok end.CallDepth) v' left' h = so end.CallDepth (λ at e. cc) v' left' h
    answers_like (Ok (end.Refused r)) v' left' h = so (end.Refused r) (λ at e. cc) v' left' h
    answers_like (Err e) v' left' h = lack_remains v' left' h.2 (run_of one m args v left h.0) (run_of other m args w left h.0) h.3 (run_alike Like one other alike m args v w left h.0 like)

-- ---- over the host itself

module _ {W R : Type 0} where
  same_self : (r : Reply W R) → SameReply (λ (v w : W). v ≡ w) r r
  same_self (value n v m) = (v, refl, refl)
  same_self (nothing v m) = (v, refl, refl)
  same_self (exit v m) = (v, refl, refl)
  same_self (refused x) = refl
  same_self step_limit = refl

  self_alike : (host : HostMeaning W R) → ReplyAlike (λ (v w : W). v ≡ w) host host
  self_alike host v w number args memory left e =
      subst (λ x. SameReply (λ (v w : W). v ≡ w) (host v number args memory left).reply (host x number args memory left).reply × ((host v number args memory left).left ≡ (host x number args memory left).left)) e
      (same_self (host v number args memory left).reply, refl)

  module _ (stands : W → ℕ → List ℕ → LinearMemory → ℕ → HostAnswer R → W → Type 0) where
    ends_itself : (e : RunEnd R) (v : W) (left : ℕ) (u : Environment) (p : Outcome W R) → EndsLike (λ (v w : W). v ≡ w) stands e v left u p → Ends stands e v left u p
    ends_itself e v left u (Normal s) h = (h.0, sym h.1, h.2, h.3)
    ends_itself e v left u (Branch n s) h = h
    ends_itself e v left u (Returned s) h = h
    ends_itself e v left u (Ended f s) h = (h.0, sym h.1, h.2, h.3)
    ends_itself e v left u (Lacks s) h = h
    ends_itself e v left u (InHost f args (answer.Value n) after s) h = h
    ends_itself e v left u (InHost f args answer.Nothing after s) h = h
    ends_itself e v left u (InHost f args answer.Exit after s) h = h
    ends_itself e v left u (InHost f args (answer.Refused r) after s) h = (h.0, subst (λ x. stands x f args s.values.memory s.left (answer.Refused r) v) h.1.1 h.1.2, h.2, h.3)
    ends_itself e v left u (InHost f args answer.StepLimit after s) h = (h.0, subst (λ x. stands x f args s.values.memory s.left answer.StepLimit v) h.1.1 h.1.2, h.2, h.3)
    ends_itself e v left u (InHost f args answer.OutOfMemory after s) h = h
    ends_itself e v left u Stuck h = h

    -- a run that no look cut is the undisturbed one, with as many looks
    pub undisturbed_ends : {S : Type 0} (may : S → Option ℕ → S → Type 0) (looks : S → Option ℕ) →
        ((old : S) (answer : Option ℕ) (new : S) → may old answer new → Rises 1 (looks old) (looks new)) → (old new : S) →
        (host : HostMeaning W R) (m : Tree) (args : List ℕ) (v : W) (left : ℕ) (result : Result (RunEnd R) AllocError) (v' : W) (left' : ℕ) → Uncut result →
        ByEvents may old new (λ events. (u : Environment) → Begins u events → RunAnswers stands (run_of host m args v left u) result v' left' (past u events)) →
        IfOk result (λ e. EndsWith stands e v' left' (CountsLooks (looks old) (looks new) undisturbed) (run_of host m args v left undisturbed))
    undisturbed_ends may looks law old new host m args v left (Err e) v' left' n h = tt
    undisturbed_ends may looks law old new host m args v left (Ok e) v' left' n h =
        let u = past (start_of h.0) h.0 in (
          calm_from u,
          ends_itself e v' left' (calm_from u) (run_of host m args v left undisturbed)
              (ends_like (λ (v w : W). v ≡ w) stands e (λ at is. n at (ap Ok is)) v' left' u (run_of host m args v left (start_of h.0)) (run_of host m args v left undisturbed) (h.2 (start_of h.0) (start_begins h.0).0)
              (follows (λ (v w : W). v ≡ w) stands host host (self_alike host) m args v v left refl (start_of h.0) refl)),
          counted may looks law h.0 old new h.1 (start_of h.0),
        )
