-- From the readers' log to one fate a job.
use Rattle.std.proofs.Common.{◌≡◌, ℕ, zero, suc, ◌+◌, ◌<◌, ◌≤◌, inl, inr, ⊎_elim, min, nat_eq, cond, List, [], ◌∷◌, length, slice_index_or, Option, Some, None, IfSome, subst, sym, ap, refl, ◌∙◌, arith}
use Rattle.std.specs.List.{AllByRecursion}
use Rattle.std.proofs.lemmas.Bool.Decides.{nat_tests}
use Rattle.ante_pool.specs.declared.PoolEnd.{PoolEnd}
use Rattle.ante_pool.specs.Seats.{times}
use Rattle.ante_pool.specs.Standing.{below}
use Rattle.ante_window.specs.declared.outcome.Outcome.{Outcome}
use Rattle.ante_window.specs.declared.outcome.Outcome.TheVariants.{Back}
use Rattle.ante_window.specs.declared.outcome.Entry.{Entry}
use Rattle.ante_window.specs.declared.outcome.Bell.{Bell}
use Rattle.ante_window.specs.declared.schedule.Turn.{Turn}
use Rattle.ante_window.specs.declared.schedule.WindowEvent.{WindowEvent}
use Rattle.ante_window.specs.Watching.{IsLate}
use Rattle.ante_window.specs.Reads.{TellsOutcome, IsTold, IsBack, IsLastIn, IsBellOf, IsReport}
use Rattle.ante_window.specs.Fates.{jobs_of, entries_from, IsIn, IsFateIn, AreFates}
use Rattle.ante_window.specs.Schedule.{turns_from, schedule}
use Rattle.ante_window.specs.Windows.{IsFate, IsWindow, moment_of}
use Rattle.ante_window.proofs.Taking.{of_in}

one : (x : ℕ) → ◌≡◌ {A = ℕ} (cond (nat_eq x x) 1 0) 1
one x = grind (arith, nat_tests)

pub below_some : (x n : ℕ) → x < n → below x n ≡ 1
below_some x n lt = grind (arith, nat_tests)

below_none : (x n : ℕ) → n ≤ x → below x n ≡ 0
below_none x n le = grind (arith, nat_tests)

rung_as : (told : ℕ → Type 0) (deadline readers : ℕ) (rung : Option ℕ) (bell : Option Bell) → IsBellOf (λ r. r < readers) rung bell → IfSome rung (IsLate told deadline) → IfSome bell (λ (b : Bell). (b.reader < readers) × IsLate told deadline b.moment)
rung_as told deadline readers rung None h late = tt
rung_as told deadline readers rung (Some b) h late = (h.reader, subst (λ o. IfSome o (IsLate told deadline)) (sym h.moment) late)

silent : (rung : Option ℕ) (bell : Option Bell) → moment_of bell ≡ rung → bell ≡ None → rung ≡ None
silent rung bell is none = sym is ∙ ap moment_of none

module _ {J R : Type 0} (answer : J → R) (jobs : List J) (told : ℕ → Type 0) (deadline readers : ℕ) where
  in_times : (log : List (Entry R)) (e : Entry R) → IsIn log e → 1 ≤ times e.job (jobs_of log)
  in_times [] e i = absurd i
  in_times (x ∷ xs) e i = ⊎_elim (λ is. let o = one e.job in let s = ap (λ (f : Entry R). f.job) is in subst (λ n. 1 ≤ cond (nat_eq n e.job) 1 0 + times e.job (jobs_of xs)) (sym s) (omega arith)) (λ j. let h = in_times xs e j in omega arith) i

  -- all jobs are in the log, where the bell wasn't rung
  pub all_claimed : (log : List (Entry R)) (bell : Option Bell) (end : PoolEnd) → IsReport answer jobs told deadline readers log bell end → (count : ℕ) → count ≡ length jobs → end.rung ≡ None → (job : ℕ) → job < count → 0 < times job (jobs_of log)
  all_claimed log bell end r count is none job lt =
      let w = r.whole none in let o = r.once job in let b = below_some job (min end.drawn (length jobs)) (omega arith) in omega arith

  left_told : (reply : R) (rung : Option ℕ) (o : Outcome R) (at : ℕ) → o ≡ Back at → rung ≡ Some at → TellsOutcome reply rung o
  left_told reply rung o at is r = subst (TellsOutcome reply rung) (sym is) r

  left_back : (o : Outcome R) (at : ℕ) → o ≡ Back at → IsBack o
  left_back o at is = subst IsBack (sym is) tt

  module _ (log : List (Entry R)) (bell : Option Bell) (end : PoolEnd) (r : IsReport answer jobs told deadline readers log bell end) where
    fate : (e : Entry R) → IsFateIn log end.rung e → IsFate answer jobs end.rung readers (min end.drawn (length jobs)) e
    fate e f = ⊎_elim
        (λ i. record {
          told = (of_in (IsTold answer jobs end.rung) log e r.outcomes i).1;
          owned = (λ lt. of_in (λ (x : Entry R). x.reader < readers) log e r.by.readers i);
          unclaimed = (λ le. let t = in_times log e i in let o = r.once e.job in let b = below_none e.job (min end.drawn (length jobs)) le in absurd (omega arith));
        })
        (λ l. record {
          told = (λ d. left_told (answer (slice_index_or jobs e.job d)) end.rung e.outcome l.1.1.0 l.1.1.1 l.1.1.2);
          owned = (λ lt. let o = r.once e.job in let z = l.0 in let b = below_some e.job (min end.drawn (length jobs)) lt in absurd (omega arith));
          unclaimed = (λ le. (l.1.0, left_back e.outcome l.1.1.0 l.1.1.1));
        }) f

    all_fates : (es : List (Entry R)) → AllByRecursion (IsFateIn log end.rung) es → AllByRecursion (IsFate answer jobs end.rung readers (min end.drawn (length jobs))) es
    all_fates [] h = tt
    all_fates (e ∷ es) h = (fate e h.0, all_fates es h.1)

    last_among : (e : Entry R) → e.reader < readers → readers ≤ 16 → IsLastIn log e → (es : List (Entry R)) → AllByRecursion (IsFateIn log end.rung) es → IsLastIn es e
    last_among e own few last [] h = tt
    last_among e own few last (f ∷ fs) h =
        ((λ same. ⊎_elim (λ i. of_in (λ (x : Entry R). x.reader ≡ e.reader → x.job ≤ e.job) log f last i same) (λ l. let n = l.1.0 in absurd (omega arith)) h.0), last_among e own few last fs h.1)

    all_last : readers ≤ 16 → (all : List (Entry R)) → AllByRecursion (IsFateIn log end.rung) all → (es : List (Entry R)) → AllByRecursion (IsFateIn log end.rung) es
        → AllByRecursion (λ (e : Entry R). e.reader < readers → IsBack e.outcome → IsLastIn all e) es
    all_last few all h [] k = tt
    all_last few all h (e ∷ es) k =
        ((λ own back. ⊎_elim (λ i. last_among e own few (of_in (λ (x : Entry R). IsBack x.outcome → IsLastIn log x) log e r.by.backs i back) all h) (λ l. let n = l.1.0 in absurd (omega arith)) k.0), all_last few all h es k.1)

    none_claimed : log ≡ [] → min end.drawn (length jobs) ≡ 0
    none_claimed is = by (min end.drawn (length jobs)) (sym (r.once 0) ∙ ap (λ (l : List (Entry R)). times 0 (jobs_of l)) is)
      where
        by : (n : ℕ) → below 0 n ≡ 0 → n ≡ 0
        by zero h = refl
        by (suc n) h = let b = below_some 0 (suc n) (omega arith) in absurd (omega arith)

    pub windowed : readers ≤ 16 → (count : ℕ) → count ≡ length jobs → (owners : List ℕ) (outcomes : List (Outcome R)) → AreFates log count end.rung owners outcomes → (ts : List Turn) → ts ≡ turns_from 0 owners outcomes
        → (list : List WindowEvent) → list ≡ schedule ts bell → IsWindow answer jobs told deadline readers outcomes owners list
    windowed few count is owners outcomes f ts turned list listed = record {
      bell = bell;
      claimed = min end.drawn (length jobs);
      ended = f.ended ∙ is;
      owned = f.owned ∙ is;
      each = subst (λ o. AllByRecursion (IsFate answer jobs o readers (min end.drawn (length jobs))) (entries_from 0 owners outcomes)) (sym r.rang.moment) (all_fates (entries_from 0 owners outcomes) f.each);
      backs = all_last few (entries_from 0 owners outcomes) f.each (entries_from 0 owners outcomes) f.each;
      late = rung_as told deadline readers end.rung bell r.rang r.late;
      whole = (λ none. let w = r.whole (silent end.rung bell r.rang.moment none) in omega arith);
      early = ⊎_elim (λ e. inl (none_claimed e)) (λ e. inr e) r.early;
      events = listed ∙ ap (λ (l : List Turn). schedule l bell) turned;
    }
