-- What a reader's turns make of its log.
use Rattle.std.proofs.Common.{◌≡◌, ℕ, ◌+◌, zero, suc, ◌<◌, ◌≤◌, Bool, true, false, true≢false, nat_lt, nat_eq, cond, List, [], ◌∷◌, ◌++◌, map, length, slice_index_or, IfSome, inl, inr, ⊎_elim, subst, sym, ap, refl, ◌∙◌, arith}
use Rattle.std.proofs.lemmas.Bool.{ltb-true, ltb-false}
use Rattle.std.proofs.lemmas.Bool.Decides.{nat_tests}
use Rattle.std.specs.List.{AllByRecursion}
use Rattle.std.proofs.lemmas.List.{map-append}
use Rattle.ante_pool.specs.declared.words.Known.{Known}
use Rattle.ante_window.specs.declared.outcome.Outcome.{Outcome}
use Rattle.ante_window.specs.declared.outcome.Outcome.TheVariants.{Done, Back, OutOfMemory}
use Rattle.ante_window.specs.declared.outcome.Entry.{Entry}
use Rattle.ante_window.specs.Watching.{IsLate, Watches}
use Rattle.ante_window.specs.Reads.{IsOutcome, IsGiven, IsRun, IsBack, IsLastIn, IsBy}
use Rattle.ante_pool.specs.Seats.{AllBelow}
use Rattle.ante_window.proofs.Looking.{has_left}

-- the same of another name of the clock and the deadline
pub watch_at : {C : Type 0} (told : C → ℕ → Type 0) (a b : C) → a ≡ b → (p q : ℕ) → p ≡ q → (v w : Known) → Watches (told a) p v w → Watches (told b) q v w
watch_at told a b e p q f v w h = subst (λ x. Watches (told x) q v w) e (subst (λ n. Watches (told a) n v w) f h)

pub early_at : {C : Type 0} (told : C → ℕ → Type 0) (a b : C) → a ≡ b → (p q : ℕ) → p ≡ q → (m : ℕ) → told a m → m < p → (n : ℕ) × told b n × (n < q)
early_at told a b e p q f m t lt = (m, subst (λ x. told x m) e t, subst (λ n. m < n) f lt)

any_default : {J : Type 0} (xs : List J) (i : ℕ) (d e : J) → i < length xs → slice_index_or xs i d ≡ slice_index_or xs i e
any_default [] i d e lt = absurd (omega arith)
any_default (x ∷ xs) zero d e lt = refl
any_default (x ∷ xs) (suc i) d e lt = any_default xs i d e (omega arith)

-- where all jobs of a log are below this one, no entry is of a later one
pub all_before : {R : Type 0} (n : ℕ) (log : List (Entry R)) → AllBelow n (map (λ (e : Entry R). e.job) log) → AllByRecursion (λ (e : Entry R). e.job ≤ n) log
all_before n [] below = tt
all_before n (e ∷ es) below = (by (nat_lt e.job n) refl, all_before n es (λ x le. let z = below x le in omega arith))
  where
    one : (x : ℕ) → ◌≡◌ {A = ℕ} (cond (nat_eq x x) 1 0) 1
    one x = grind (arith, nat_tests)

    by : (b : Bool) → nat_lt e.job n ≡ b → e.job ≤ n
    by true is = let lt = ltb-true e.job n is in omega arith
    by false is = let z = below e.job (ltb-false e.job n is) in let o = one e.job in absurd (omega arith)

all_of : {A : Type 0} (P Q : A → Type 0) (xs : List A) → ((x : A) → P x → Q x) → AllByRecursion P xs → AllByRecursion Q xs
all_of P Q [] f h = tt
all_of P Q (x ∷ xs) f h = (f x h.0, all_of P Q xs f h.1)

all_then : {A : Type 0} (P : A → Type 0) (xs ys : List A) → AllByRecursion P xs → AllByRecursion P ys → AllByRecursion P (xs ++ ys)
all_then P [] ys h k = k
all_then P (x ∷ xs) ys h k = (h.0, all_then P xs ys h.1 k)

module _ {R : Type 0} where
  -- no entry came Back
  abbrev pub NoneBack : List (Entry R) → Type 0
  NoneBack log = AllByRecursion (λ (e : Entry R). IsBack e.outcome → ⊥) log

  pub by_other : (P Q : ℕ → Type 0) (log : List (Entry R)) → ((r : ℕ) → P r → Q r) → IsBy P log → IsBy Q log
  by_other P Q log f h = record { readers = all_of (λ (e : Entry R). P e.reader) (λ (e : Entry R). Q e.reader) log (λ e. f e.reader) h.readers; backs = h.backs }

  -- a reader's next entry, where none before it came Back and all of them are of earlier jobs
  pub by_push : (Mine : ℕ → Type 0) (log : List (Entry R)) (e : Entry R) → IsBy Mine log → Mine e.reader → NoneBack log → AllByRecursion (λ (f : Entry R). f.job ≤ e.job) log → IsBy Mine (log ++ e ∷ [])
  by_push Mine log e h mine none before = record {
    readers = all_then (λ (f : Entry R). Mine f.reader) log (e ∷ []) h.readers (mine, tt);
    backs = all_then (λ (f : Entry R). IsBack f.outcome → IsLastIn (log ++ e ∷ []) f) log (e ∷ [])
        (all_of (λ (f : Entry R). IsBack f.outcome → ⊥) (λ (f : Entry R). IsBack f.outcome → IsLastIn (log ++ e ∷ []) f) log (λ f no back. absurd (no back)) none) (
          (λ back. all_then (λ (f : Entry R). f.reader ≡ e.reader → f.job ≤ e.job) log (e ∷ [])
              (all_of (λ (f : Entry R). f.job ≤ e.job) (λ (f : Entry R). f.reader ≡ e.reader → f.job ≤ e.job) log (λ f le same. le) before) ((λ same. omega arith), tt)),
          tt,
        );
  }

  backs_wider : (log more : List (Entry R)) (es : List (Entry R)) → ((e : Entry R) → IsLastIn log e → IsLastIn more e) → AllByRecursion (λ (e : Entry R). IsBack e.outcome → IsLastIn log e) es → AllByRecursion (λ (e : Entry R). IsBack e.outcome → IsLastIn more e) es
  backs_wider log more es f h = all_of (λ (e : Entry R). IsBack e.outcome → IsLastIn log e) (λ (e : Entry R). IsBack e.outcome → IsLastIn more e) es (λ e last back. f e (last back)) h

  -- a log of the readers below this one, and its own
  pub by_joined : (last readers : ℕ) → readers ≡ last + 1 → (xs ys : List (Entry R)) → IsBy (λ r. r < last) xs → IsBy (λ r. r ≡ last) ys → IsBy (λ r. r < readers) (xs ++ ys)
  by_joined last readers is xs ys h k = record {
    readers = all_then (λ (e : Entry R). e.reader < readers) xs ys
        (all_of (λ (e : Entry R). e.reader < last) (λ (e : Entry R). e.reader < readers) xs (λ e lt. omega arith) h.readers)
        (all_of (λ (e : Entry R). e.reader ≡ last) (λ (e : Entry R). e.reader < readers) ys (λ e same. omega arith) k.readers);
    backs = all_then (λ (e : Entry R). IsBack e.outcome → IsLastIn (xs ++ ys) e) xs ys
        (both xs h.readers h.backs)
        (both' ys k.readers k.backs);
  }
    where
      both : (es : List (Entry R)) → AllByRecursion (λ (e : Entry R). e.reader < last) es → AllByRecursion (λ (e : Entry R). IsBack e.outcome → IsLastIn xs e) es → AllByRecursion (λ (e : Entry R). IsBack e.outcome → IsLastIn (xs ++ ys) e) es
      both [] mine b = tt
      both (e ∷ es) mine b = (
        (λ back. all_then (λ (f : Entry R). f.reader ≡ e.reader → f.job ≤ e.job) xs ys (b.0 back)
            (all_of (λ (f : Entry R). f.reader ≡ last) (λ (f : Entry R). f.reader ≡ e.reader → f.job ≤ e.job) ys (λ f at same. let lt = mine.0 in absurd (omega arith)) k.readers)),
        both es mine.1 b.1,
      )

      both' : (es : List (Entry R)) → AllByRecursion (λ (e : Entry R). e.reader ≡ last) es → AllByRecursion (λ (e : Entry R). IsBack e.outcome → IsLastIn ys e) es → AllByRecursion (λ (e : Entry R). IsBack e.outcome → IsLastIn (xs ++ ys) e) es
      both' [] mine b = tt
      both' (e ∷ es) mine b = (
        (λ back. all_then (λ (f : Entry R). f.reader ≡ e.reader → f.job ≤ e.job) xs ys
            (all_of (λ (f : Entry R). f.reader < last) (λ (f : Entry R). f.reader ≡ e.reader → f.job ≤ e.job) xs (λ f lt same. let at = mine.0 in absurd (omega arith)) h.readers) (b.0 back)),
        both' es mine.1 b.1,
      )

module _ {J R : Type 0} (answer : J → R) (jobs : List J) where
  some_job : (js : List J) (i : ℕ) → i < length js → J
  some_job [] i lt = absurd (omega arith)
  some_job (j ∷ js) i lt = j

  not_back : (reply : R) (o : Outcome R) → IsOutcome reply [] o → IsBack o → ⊥
  not_back reply (Done r) h back = back
  not_back reply (Back at) h back = true≢false (sym h)
  not_back reply OutOfMemory h back = back

  -- where no moment was seen, no entry came Back
  pub none_back : (moments : List ℕ) → moments ≡ [] → (log : List (Entry R)) → AllByRecursion (IsGiven answer jobs moments) log → NoneBack log
  none_back moments is [] h = tt
  none_back moments is (e ∷ es) h =
      let d = some_job jobs e.job h.0.0 in
      ((λ back. not_back (answer (slice_index_or jobs e.job d)) e.outcome (subst (λ ms. IsOutcome (answer (slice_index_or jobs e.job d)) ms e.outcome) is (h.0.1 d)) back), none_back moments is es h.1)

  outcome_more : (reply : R) (moments more : List ℕ) (o : Outcome R) → IsOutcome reply moments o → IsOutcome reply (moments ++ more) o
  outcome_more reply moments more (Done r) h = h
  outcome_more reply moments more (Back at) h = has_left at moments more h
  outcome_more reply moments more OutOfMemory h = tt

  pub all_more : (moments more : List ℕ) (log : List (Entry R)) → AllByRecursion (IsGiven answer jobs moments) log → AllByRecursion (IsGiven answer jobs (moments ++ more)) log
  all_more moments more [] h = tt
  all_more moments more (e ∷ es) h =
      ((h.0.0, (λ d. outcome_more (answer (slice_index_or jobs e.job d)) moments more e.outcome (h.0.1 d))), all_more moments more es h.1)

  all_push : (moments : List ℕ) (log : List (Entry R)) (e : Entry R) → AllByRecursion (IsGiven answer jobs moments) log → IsGiven answer jobs moments e → AllByRecursion (IsGiven answer jobs moments) (log ++ e ∷ [])
  all_push moments [] e h k = (k, tt)
  all_push moments (x ∷ xs) e h k = (h.0, all_push moments xs e h.1 k)

  module _ (told : ℕ → Type 0) (deadline : ℕ) where
    pub run_over : (v : Known) (log : List (Entry R)) (w : Known) → IsRun answer jobs told deadline v log → Watches told deadline v w → IsRun answer jobs told deadline w log
    run_over v log w r h = record {
      numbers = r.numbers ∙ sym h.numbers;
      outcomes = subst (λ ms. AllByRecursion (IsGiven answer jobs ms) log) (sym h.moments.1) (all_more v.moments h.moments.0 log r.outcomes);
      won = h.won r.won;
      early = ⊎_elim (λ e. inl (h.numbers ∙ e)) (λ e. inr e) r.early;
    }

    -- the log with the next job's entry is still of this reader alone
    pub by_next : (v : Known) (log : List (Entry R)) (n : ℕ) (o : Outcome R) (reader : ℕ) → IsRun answer jobs told deadline v log → v.moments ≡ [] → AllBelow n v.numbers → IsBy (λ r. r ≡ reader) log
        → IsBy (λ r. r ≡ reader) (log ++ record { job = n; reader = reader; outcome = o } ∷ [])
    by_next v log n o reader run unseen below by =
        by_push (λ r. r ≡ reader) log (record { job = n; reader = reader; outcome = o }) by refl (none_back v.moments unseen log run.outcomes) (all_before n log (subst (AllBelow n) (sym run.numbers) below))

    pub run_next : (v : Known) (log : List (Entry R)) (w x : Known) (n : ℕ) (o : Outcome R) (reader : ℕ) → IsRun answer jobs told deadline v log → w ≡ record v { numbers = v.numbers ++ n ∷ [] }
        → ((m : ℕ) × told m × (m < deadline)) → Watches told deadline w x → n < length jobs → (j : J) → IsOutcome (answer (slice_index_or jobs n j)) x.moments o
        → IsRun answer jobs told deadline x (log ++ record { job = n; reader = reader; outcome = o } ∷ [])
    run_next v log w x n o reader r claimed early h lt j outcome =
        let given : (d : J) → IsOutcome (answer (slice_index_or jobs n d)) x.moments o = λ d. subst (λ k. IsOutcome (answer k) x.moments o) (any_default jobs n j d lt) outcome in
        let moments : x.moments ≡ v.moments ++ h.moments.0 = h.moments.1 ∙ ap (λ (u : Known). u.moments ++ h.moments.0) claimed in
        let numbers : x.numbers ≡ v.numbers ++ n ∷ [] = h.numbers ∙ ap (λ (u : Known). u.numbers) claimed in
        let won : IfSome w.won (IsLate told deadline) = subst (λ (u : Known). IfSome u.won (IsLate told deadline)) (sym claimed) r.won in
        let old : AllByRecursion (IsGiven answer jobs x.moments) log =
        subst (λ ms. AllByRecursion (IsGiven answer jobs ms) log) (sym moments) (all_more v.moments h.moments.0 log r.outcomes) in
        let entry : Entry R = record { job = n; reader = reader; outcome = o } in
        record {
          numbers = map-append (λ (e : Entry R). e.job) log (entry ∷ []) ∙ ap (λ ns. ns ++ n ∷ []) r.numbers ∙ sym numbers;
          outcomes = all_push x.moments log entry old (lt, given);
          won = h.won won;
          early = inr early;
        }
