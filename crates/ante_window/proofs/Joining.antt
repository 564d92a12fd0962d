-- What readers bring back together, and what it says once the pool is closed.
use Rattle.std.proofs.Common.{◌≡◌, ℕ, ◌+◌, ◌<◌, ◌≤◌, ◌≢◌, Bool, true, false, ◌||◌, nat_eq, List, [], ◌∷◌, ◌++◌, map, length, slice_index_or, All, Option, Some, None, IfSome, IfOk, Result, inl, inr, ⊎_elim, true≢false, subst, sym, ap, refl, ◌∙◌, arith}
use Rattle.std.specs.Option.{option_or}
use Rattle.std.specs.List.{AllByRecursion}
use Rattle.std.proofs.lemmas.List.{map-append}
use Rattle.std.proofs.lemmas.Bool.Decides.{nat_tests}
use Rattle.std.proofs.lemmas.List.Elements.{All-head, All-tail}
use Rattle.ante_pool.specs.declared.words.Known.{Known}
use Rattle.ante_pool.specs.declared.PoolEnd.{PoolEnd}
use Rattle.ante_pool.specs.Seats.{joined, times}
use Rattle.ante_pool.specs.Pools.{IsTruth}
use Rattle.ante_window.specs.declared.outcome.Outcome.{Outcome}
use Rattle.ante_window.specs.declared.outcome.Outcome.TheVariants.{Done, Back, OutOfMemory}
use Rattle.ante_window.specs.declared.outcome.Entry.{Entry}
use Rattle.ante_window.specs.Watching.{has, IsLate, IsOver}
use Rattle.ante_window.specs.Reads.{IsOutcome, TellsOutcome, IsGiven, IsTold, IsBellOf, IsBrought, IsReport}
use Rattle.ante_window.specs.declared.outcome.Bell.{Bell}
use Rattle.ante_window.specs.declared.reader.Brought.{Brought}
use Rattle.ante_window.proofs.Running.{all_more, by_joined}

or_right : (b c : Bool) → c ≡ true → (b || c) ≡ true
or_right true c e = refl
or_right false c e = e

or_left : (b c : Bool) → b ≡ true → (b || c) ≡ true
or_left true c e = refl
or_left false c e = absurd (true≢false (sym e))

has_right : (at : ℕ) (xs ys : List ℕ) → has at ys ≡ true → has at (xs ++ ys) ≡ true
has_right at [] ys e = e
has_right at (x ∷ xs) ys e = or_right (nat_eq x at) (has at (xs ++ ys)) (has_right at xs ys e)

won_either : (P : ℕ → Type 0) (a b : Option ℕ) → IfSome a P → IfSome b P → IfSome (option_or a b) P
won_either P None b h k = k
won_either P (Some m) b h k = h

some_other : {A : Type 0} (P Q : A → Type 0) (o : Option A) → ((x : A) → P x → Q x) → IfSome o P → IfSome o Q
some_other P Q None f h = h
some_other P Q (Some x) f h = f x h

bell_either : (last readers : ℕ) → readers ≡ last + 1 → (won won' : Option ℕ) (b c : Option Bell) → IsBellOf (λ r. r < last) won b → IsBellOf (λ r. r ≡ last) won' c → IsBellOf (λ r. r < readers) (option_or won won') (option_or b c)
bell_either last readers is won won' None c h k = record {
  moment = k.moment ∙ ap (λ o. option_or o won') h.moment;
  reader = some_other (λ (x : Bell). x.reader ≡ last) (λ (x : Bell). x.reader < readers) c (λ x e. omega arith) k.reader;
}
bell_either last readers is won won' (Some b) c h k = record { moment = ap (λ o. option_or o won') h.moment; reader = (let lt = h.reader in omega arith) }

some_left : (xs ys : List ℕ) → xs ≢ [] → (xs ++ ys) ≢ []
some_left [] ys ne e = ne refl
some_left (x ∷ xs) ys ne e = Prim.cc

some_right : (xs ys : List ℕ) → ys ≢ [] → (xs ++ ys) ≢ []
some_right [] ys ne e = ne e
some_right (x ∷ xs) ys ne e = Prim.cc

over_left : (v w : Known) → IsOver v → IsOver (joined v w)
over_left v w h = ⊎_elim (λ e. inl (or_left v.ended w.ended e)) (λ ne. inr (some_left v.moments w.moments ne)) h

module _ {J R : Type 0} (answer : J → R) (jobs : List J) where
  outcome_right : (reply : R) (moments more : List ℕ) (o : Outcome R) → IsOutcome reply more o → IsOutcome reply (moments ++ more) o
  outcome_right reply moments more (Done r) h = h
  outcome_right reply moments more (Back at) h = has_right at moments more h
  outcome_right reply moments more OutOfMemory h = tt

  all_right : (moments more : List ℕ) (log : List (Entry R)) → AllByRecursion (IsGiven answer jobs more) log → AllByRecursion (IsGiven answer jobs (moments ++ more)) log
  all_right moments more [] h = tt
  all_right moments more (e ∷ es) h = ((h.0.0, (λ d. outcome_right (answer (slice_index_or jobs e.job d)) moments more e.outcome (h.0.1 d))), all_right moments more es h.1)

  all_both : (moments : List ℕ) (xs ys : List (Entry R)) → AllByRecursion (IsGiven answer jobs moments) xs → AllByRecursion (IsGiven answer jobs moments) ys → AllByRecursion (IsGiven answer jobs moments) (xs ++ ys)
  all_both moments [] ys h k = k
  all_both moments (x ∷ xs) ys h k = (h.0, all_both moments xs ys h.1 k)

  tells : (reply : R) (moments : List ℕ) (rung : Option ℕ) (o : Outcome R) → ((at : ℕ) → has at moments ≡ true → rung ≡ Some at) → IsOutcome reply moments o → TellsOutcome reply rung o
  tells reply moments rung (Done r) h k = k
  tells reply moments rung (Back at) h k = h at k
  tells reply moments rung OutOfMemory h k = tt

  all_told : (moments : List ℕ) (rung : Option ℕ) (log : List (Entry R)) → ((at : ℕ) → has at moments ≡ true → rung ≡ Some at) → AllByRecursion (IsGiven answer jobs moments) log → AllByRecursion (IsTold answer jobs rung) log
  all_told moments rung [] h k = tt
  all_told moments rung (e ∷ es) h k = ((k.0.0, (λ d. tells (answer (slice_index_or jobs e.job d)) moments rung e.outcome h (k.0.1 d))), all_told moments rung es h k.1)

  module _ (told : ℕ → Type 0) (deadline : ℕ) where
    pub brings_joined : (last : ℕ) (v w : Known) (xs ys : List (Entry R)) (b c : Option Bell) → IsBrought answer jobs told deadline (λ r. r < last) v xs b
        → IsBrought answer jobs told deadline (λ r. r ≡ last) w ys c → IsBrought answer jobs told deadline (λ r. r < last + 1) (joined v w) (xs ++ ys) (option_or b c)
    brings_joined last v w xs ys b c h k = (
      record {
        numbers = map-append (λ (e : Entry R). e.job) xs ys ∙ ap (λ ns. ns ++ map (λ (e : Entry R). e.job) ys) h.0.numbers ∙ ap (λ ns. v.numbers ++ ns) k.0.numbers;
        outcomes = all_both (v.moments ++ w.moments) xs ys (all_more answer jobs v.moments w.moments xs h.0.outcomes) (all_right v.moments w.moments ys k.0.outcomes);
        won = won_either (IsLate told deadline) v.won w.won h.0.won k.0.won;
        early = ⊎_elim (λ e. ⊎_elim (λ f. inl (ap (λ ns. ns ++ w.numbers) e ∙ f)) (λ f. inr f) k.0.early) (λ e. inr e) h.0.early;
      },
      over_left v w h.1,
      by_joined last (last + 1) refl xs ys h.2 k.2,
      bell_either last (last + 1) refl v.won w.won b c h.3 k.3,
    )

    -- the same of another name of the number of readers
    pub brings_as : {E : Type 0} (n readers : ℕ) → n ≡ readers → (result : Result (Brought R) E) → IfOk result (λ b. IsBrought answer jobs told deadline (λ r. r < n) b.seat.known b.log.items b.bell)
        → IfOk result (λ b. IsBrought answer jobs told deadline (λ r. r < readers) b.seat.known b.log.items b.bell)
    brings_as n readers is result h = subst (λ m. IfOk result (λ b. IsBrought answer jobs told deadline (λ r. r < m) b.seat.known b.log.items b.bell)) is h

    found : (rung : Option ℕ) (ms : List ℕ) → All (λ m. rung ≡ Some m) ms → (at : ℕ) → has at ms ≡ true → rung ≡ Some at
    found rung [] h at e = absurd (true≢false (sym e))
    found rung (m ∷ ms) h at e =
        let head = All-head (λ n. rung ≡ Some n) m ms h in let rest' = found rung ms (All-tail (λ n. rung ≡ Some n) m ms h) at in by (nat_eq m at) refl head rest' e
      where
        by : (b : Bool) → nat_eq m at ≡ b → rung ≡ Some m → (has at ms ≡ true → rung ≡ Some at) → (b || has at ms) ≡ true → rung ≡ Some at
        by true is r next e = let same : m ≡ at = grind (arith, nat_tests) in r ∙ ap Some same
        by false is r next e = next e

    no_ring : (v : Known) (end : PoolEnd) → IsTruth (length jobs) v end → IsOver v → end.rung ≡ None → length jobs ≤ end.drawn
    no_ring v end t over none = ⊎_elim t.ended (λ ne. absurd (ne (by v.moments t.moments))) over
      where
        by : (ms : List ℕ) → All (λ m. end.rung ≡ Some m) ms → ms ≡ []
        by [] h = refl
        by (m ∷ ms) h = let e : None ≡ Some m = sym none ∙ All-head (λ n. end.rung ≡ Some n) m ms h in absurd Prim.cc

    empty_log : (log : List (Entry R)) → map (λ (e : Entry R). e.job) log ≡ [] → log ≡ []
    empty_log [] e = refl
    empty_log (x ∷ xs) e = absurd Prim.cc

    pub reports : (readers : ℕ) (v : Known) (log : List (Entry R)) (b : Option Bell) (end : PoolEnd) → IsBrought answer jobs told deadline (λ r. r < readers) v log b → IsTruth (length jobs) v end
        → IsReport answer jobs told deadline readers log b end
    reports readers v log b end h t = record {
      outcomes = all_told v.moments end.rung log (found end.rung v.moments t.moments) h.0.outcomes;
      once = (λ x. ap (times x) h.0.numbers ∙ t.numbers x);
      late = subst (λ o. IfSome o (IsLate told deadline)) (sym t.rung) h.0.won;
      whole = no_ring v end t h.1;
      early = ⊎_elim (λ e. inl (empty_log log (h.0.numbers ∙ e))) (λ e. inr e) h.0.early;
      by = h.2;
      rang = subst (λ o. IsBellOf (λ r. r < readers) o b) (sym t.rung) h.3;
    }

    -- the same where the pool's number of jobs is known by another name
    pub reports_at : (readers : ℕ) (v : Known) (log : List (Entry R)) (b : Option Bell) (end : PoolEnd) (n : ℕ) → n ≡ length jobs → IsBrought answer jobs told deadline (λ r. r < readers) v log b → IsTruth n v end
        → IsReport answer jobs told deadline readers log b end
    reports_at readers v log b end n is h t = reports readers v log b end h (subst (λ k. IsTruth k v end) is t)
