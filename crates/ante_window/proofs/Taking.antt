-- What taking entries out of a log leaves.
use Rattle.std.proofs.Common.{◌≡◌, ◌≢◌, ℕ, zero, suc, ◌+◌, ◌<◌, ◌≤◌, inl, inr, ⊎_elim, nat_eq, cond, Bool, true, false, List, [], ◌∷◌, ◌++◌, length, slice_index_or, Option, subst, sym, ap, refl, ◌∙◌, arith, remove}
use Rattle.std.specs.List.{AllByRecursion}
use Rattle.std.proofs.lemmas.Bool.Decides.{nat_tests}
use Rattle.ante_pool.specs.Seats.{times}
use Rattle.ante_window.specs.declared.outcome.Outcome.{Outcome}
use Rattle.ante_window.specs.declared.outcome.Entry.{Entry}
use Rattle.ante_window.specs.Fates.{jobs_of, entries_from, IsIn, IsTaken, IsFateIn, AreFates}

not_one : (x y : ℕ) → x ≢ y → ◌≡◌ {A = ℕ} (cond (nat_eq x y) 1 0) 0
not_one x y ne = by (nat_eq x y) refl
  where
    by : (b : Bool) → nat_eq x y ≡ b → ◌≡◌ {A = ℕ} (cond b 1 0) 0
    by true is = let same : x ≡ y = grind (arith, nat_tests) in absurd (ne same)
    by false is = refl

module _ {R : Type 0} where
  in_at : (xs : List (Entry R)) (k : ℕ) (e : Entry R) → k < length xs → e ≡ slice_index_or xs k e → IsIn xs e
  in_at [] k e lt is = absurd (omega arith)
  in_at (x ∷ xs) zero e lt is = inl (sym is)
  in_at (x ∷ xs) (suc k) e lt is = inr (in_at xs k e (omega arith) is)

  pub of_in : (P : Entry R → Type 0) (xs : List (Entry R)) (e : Entry R) → AllByRecursion P xs → IsIn xs e → P e
  of_in P [] e h i = absurd i
  of_in P (x ∷ xs) e h i = ⊎_elim (λ is. subst P is h.0) (λ j. of_in P xs e h.1 j) i

  pub in_all : (xs : List (Entry R)) → AllByRecursion (IsIn xs) xs
  in_all xs = by xs (λ e i. i)
    where
      by : (ys : List (Entry R)) → ((e : Entry R) → IsIn ys e → IsIn xs e) → AllByRecursion (IsIn xs) ys
      by [] f = tt
      by (y ∷ ys) f = (f y (inl refl), by ys (λ e i. f e (inr i)))

  all_removed : (P : Entry R → Type 0) (xs : List (Entry R)) (k : ℕ) → AllByRecursion P xs → AllByRecursion P (remove xs k)
  all_removed P [] zero h = tt
  all_removed P [] (suc k) h = tt
  all_removed P (x ∷ xs) zero h = h.1
  all_removed P (x ∷ xs) (suc k) h = (h.0, all_removed P xs k h.1)

  times_removed : (xs : List (Entry R)) (k : ℕ) (e : Entry R) (x : ℕ) → k < length xs → e ≡ slice_index_or xs k e → e.job ≢ x → times x (jobs_of (remove xs k)) ≡ times x (jobs_of xs)
  times_removed [] k e x lt is ne = absurd (omega arith)
  times_removed (y ∷ ys) zero e x lt is ne = let z = not_one y.job x (λ same. ne (ap (λ (f : Entry R). f.job) is ∙ same)) in omega arith
  times_removed (y ∷ ys) (suc k) e x lt is ne = let t = times_removed ys k e x (omega arith) is ne in omega arith

  -- what is left of the log, once a job's entry was taken
  pub left_in : (log old new : List (Entry R)) (job : ℕ) (rung : Option ℕ) (e : Entry R) → IsTaken job rung old new e → AllByRecursion (IsIn log) old → AllByRecursion (IsIn log) new
  left_in log old new job rung e t h = ⊎_elim (λ k. subst (AllByRecursion (IsIn log)) (sym k.3) (all_removed (IsIn log) old k.0 h)) (λ l. subst (AllByRecursion (IsIn log)) (sym l.0) h) t.1

  pub left_times : (old new : List (Entry R)) (job : ℕ) (rung : Option ℕ) (e : Entry R) → IsTaken job rung old new e → (x : ℕ) → job + 1 ≤ x → times x (jobs_of new) ≡ times x (jobs_of old)
  left_times old new job rung e t x le =
      ⊎_elim (λ k. ap (λ (l : List (Entry R)). times x (jobs_of l)) k.3 ∙ times_removed old k.0 e x k.1 k.2 (λ same. let j = t.0 in absurd (omega arith))) (λ l. ap (λ (y : List (Entry R)). times x (jobs_of y)) l.0) t.1

  pub fate_in : (log old new : List (Entry R)) (job : ℕ) (rung : Option ℕ) (e : Entry R) → IsTaken job rung old new e → AllByRecursion (IsIn log) old → times job (jobs_of old) ≡ times job (jobs_of log) → IsFateIn log rung e
  fate_in log old new job rung e t h same =
      ⊎_elim (λ k. inl (of_in (IsIn log) old e h (in_at old k.0 e k.1 k.2))) (λ l. inr (ap (λ n. times n (jobs_of log)) t.0 ∙ sym same ∙ l.1, l.2)) t.1

  pub entries_push : (job : ℕ) (os : List ℕ) (xs : List (Outcome R)) (o : ℕ) (x : Outcome R) → length os ≡ length xs
      → entries_from job (os ++ o ∷ []) (xs ++ x ∷ []) ≡ entries_from job os xs ++ record { job = job + length os; reader = o; outcome = x } ∷ []
  entries_push job [] [] o x e = ap (λ n. record { job = n; reader = o; outcome = x } ∷ []) (omega arith)
  entries_push job [] (y ∷ ys) o x e = absurd (omega arith)
  entries_push job (p ∷ os) [] o x e = absurd (omega arith)
  entries_push job (p ∷ os) (y ∷ ys) o x e =
      ap (λ (l : List (Entry R)). record { job = job; reader = p; outcome = y } ∷ l) (entries_push (job + 1) os ys o x (omega arith)
      ∙ ap (λ n. entries_from (job + 1) os ys ++ record { job = n; reader = o; outcome = x } ∷ []) (omega arith))

  all_snoc : (P : Entry R → Type 0) (xs : List (Entry R)) (x : Entry R) → AllByRecursion P xs → P x → AllByRecursion P (xs ++ x ∷ [])
  all_snoc P [] x h p = (p, tt)
  all_snoc P (y ∷ ys) x h p = (h.0, all_snoc P ys x h.1 p)

  pub fates_none : (log : List (Entry R)) (rung : Option ℕ) (os : List ℕ) (xs : List (Outcome R)) → os ≡ [] → xs ≡ [] → AreFates log 0 rung os xs
  fates_none log rung os xs o x =
      subst (λ ys. AreFates log 0 rung os ys) (sym x) (subst (λ ps. AreFates log 0 rung ps []) (sym o) (record { owned = refl; ended = refl; each = tt }))

  -- one fate more
  pub fates_push : (log : List (Entry R)) (rung : Option ℕ) (count : ℕ) (os : List ℕ) (xs : List (Outcome R)) (e : Entry R) → AreFates log count rung os xs → e.job ≡ count → IsFateIn log rung e
      → AreFates log (count + 1) rung (os ++ e.reader ∷ []) (xs ++ e.outcome ∷ [])
  fates_push log rung count os xs e f is fate = record {
    owned = length_snoc os e.reader ∙ ap (λ n. n + 1) f.owned;
    ended = length_snoc xs e.outcome ∙ ap (λ n. n + 1) f.ended;
    each = subst (AllByRecursion (IsFateIn log rung)) (sym (entries_push 0 os xs e.reader e.outcome (f.owned ∙ sym f.ended)))
        (all_snoc (IsFateIn log rung) (entries_from 0 os xs) (record { job = 0 + length os; reader = e.reader; outcome = e.outcome }) f.each
        (subst (λ n. IsFateIn log rung (record { job = n; reader = e.reader; outcome = e.outcome })) (is ∙ sym f.owned ∙ omega arith) fate));
  }
    where
      length_snoc : {A : Type 0} (ys : List A) (y : A) → length (ys ++ y ∷ []) ≡ length ys + 1
      length_snoc [] y = refl
      length_snoc (z ∷ ys) y = let h = length_snoc ys y in omega arith
