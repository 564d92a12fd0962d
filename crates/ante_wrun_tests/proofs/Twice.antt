-- The host counts as the count alone does, and holds what it held.
use Rattle.std.proofs.Common.{◌≡◌, ℕ, List, [], ◌∷◌, Option, None, Some, Result, Ok, Err, refl, sym, ap, subst, ◌∙◌}
use Rattle.std.specs.Prelude.{IfOk}
use Rattle.std.specs.declared.alloc.AllocError.{AllocError}
use Rattle.ante_wmem.specs.Linear.{LinearMemory}
use Rattle.ante_wmem.specs.HostCalls.{HostMeaning}
use Rattle.ante_wmem.specs.declared.host.HostAnswer.TheVariants as answer
use Rattle.ante_wtree.specs.declared.instructions.ValueKind.{ValueKind}
use Rattle.ante_wtree.specs.Intrinsics.{type_at}
use Rattle.ante_wtree.specs.Replies.{IsReplyOf, AnswersTyped}
use Rattle.ante_wtree.specs.Trees.{Tree}
use Rattle.ante_wtree.proofs.Replies.{result_reply_typed}
use Rattle.ante_wmeaning.specs.declared.ends.RunEnd.{RunEnd}
use Rattle.ante_wmeaning.specs.declared.ends.RunEnd.TheVariants as end
use Rattle.ante_wmeaning.specs.Configurations.{Outcome, Normal, Branch, Returned, Ended, Lacks, InHost, Stuck}
use Rattle.ante_wmeaning.specs.Environment.{Environment, undisturbed}
use Rattle.ante_wmeaning.specs.Invocation.{run_of}
use Rattle.ante_wmeaning.specs.RunEnds.{Remainder, Ends, Comes}
use Rattle.ante_wmeaning.specs.Likeness.{SameReply, ReplyAlike, EndsLike, AnswersLike}
use Rattle.ante_wmeaning.proofs.Answered.{answers_like}
use Rattle.ante_wmeaning.proofs.Staying.{stays_so}
use Rattle.ante_wrun_tests.specs.Counting.{Counted, zero_of, one_more, counted, counts, Leads}

abbrev Same : ℕ → Counted → ℕ → Type 0
Same holder v n = (v.holder ≡ holder) × (v.count ≡ n)

zero_alike : (holder : ℕ) (t : Option (List ValueKind × Option ValueKind)) (v : Counted) (n : ℕ) (m : LinearMemory) → Same holder v n →
    SameReply (Same holder) (zero_of t v m) (zero_of t n m)
zero_alike holder None v n m h = (n, h, refl)
zero_alike holder (Some (params, None)) v n m h = (n, h, refl)
zero_alike holder (Some (params, Some kind)) v n m h = (n, h, refl)

abbrev pub counting : HostMeaning Counted ℕ
counting host function args memory left = counted host function memory left

pub counting_typed : AnswersTyped (λ host function args left. Unit {0}) counting
counting_typed number params result args v memory left type fit allowed =
    subst (λ t. IsReplyOf result (zero_of t (record v { count = one_more v.count }) memory)) (sym type) (result_reply_typed Counted ℕ result 0 (record v { count = one_more v.count }) memory)

counts_alike : (holder : ℕ) → ReplyAlike (Same holder) counting counts
counts_alike holder v n number args memory left h =
    (zero_alike holder (type_at number) (record v { count = one_more v.count }) (one_more n) memory (h.0, ap one_more h.1), refl)

abbrev unchanged : Remainder Counted ℕ
unchanged w number args memory left a u = u ≡ w

-- the end of the count alone
counted_end : (holder : ℕ) (e : RunEnd ℕ) (v : Counted) (left : ℕ) (u : Environment) (o : Outcome ℕ ℕ) → EndsLike (Same holder) unchanged e v left u o →
    Ends (λ w f args memory left answer u. u ≡ w) e v.count left u o
counted_end holder e v left u (Normal s) h = (h.0, sym h.1.1, h.2, h.3)
counted_end holder e v left u (Branch n s) h = absurd h
counted_end holder e v left u (Returned s) h = absurd h
counted_end holder e v left u (Ended f s) h = (h.0, sym h.1.1, h.2, h.3)
counted_end holder e v left u (Lacks s) h = absurd h
counted_end holder e v left u (InHost f args (answer.Value n) after s) h = absurd h
counted_end holder e v left u (InHost f args answer.Nothing after s) h = absurd h
counted_end holder e v left u (InHost f args answer.Exit after s) h = absurd h
counted_end holder e v left u (InHost f args (answer.Refused r) after s) h = (h.0, ap (λ (x : Counted). x.count) h.1.2 ∙ h.1.1.1, h.2, h.3)
counted_end holder e v left u (InHost f args answer.StepLimit after s) h = (h.0, ap (λ (x : Counted). x.count) h.1.2 ∙ h.1.1.1, h.2, h.3)
counted_end holder e v left u (InHost f args answer.OutOfMemory after s) h = absurd h
counted_end holder e v left u Stuck h = absurd h

module _ (m : Tree) (args : List ℕ) (v : Counted) (steps : ℕ) (result : Result (RunEnd ℕ) AllocError) (v' : Counted) (left' : ℕ)
    (h : Comes unchanged (λ (x : Environment). run_of counting m args v steps x) result v' left') where
  abbrev alone : Outcome ℕ ℕ
  alone = run_of counts m args v.count steps undisturbed

  alike : AnswersLike (Same v.holder) unchanged alone result v' left'
  alike = answers_like (Same v.holder) unchanged counting counts (counts_alike v.holder) m args v v.count steps (refl, refl) result v' left' h

  pub same_holder : v'.holder ≡ v.holder
  same_holder = stays_so (Same v.holder) unchanged (λ x. x.holder ≡ v.holder) (λ x n e. e.0)
      (λ x number xs memory left a y p e. ap (λ (z : Counted). z.holder) e ∙ p) alone result v' left' alike

  pub leads : (e : RunEnd ℕ) → result ≡ Ok e → ((at : ℕ) → e ≡ end.Cut at → ⊥) →
      (left : ℕ) × (environment : Environment) × Ends (λ w f args memory left answer u. u ≡ w) e v'.count left environment alone
  leads e is uncut = by_end e uncut (subst (λ x. AnswersLike (Same v.holder) unchanged alone x v' left') is alike)
    where
      by_end : (x : RunEnd ℕ) → ((at : ℕ) → x ≡ end.Cut at → ⊥) → AnswersLike (Same v.holder) unchanged alone (Ok x) v' left' →
          (left : ℕ) × (environment : Environment) × Ends (λ w f args memory left answer u. u ≡ w) x v'.count left environment alone
      by_end (end.Cut at) n l = absurd (n at refl)
      by_end end.Done n l = (left', l.0, counted_end v.holder end.Done v' left' l.0 alone l.1)
      by_end end.Exit n l = (left', l.0, counted_end v.holder end.Exit v' left' l.0 alone l.1)
      by_end (end.Trap kind) n l = (left', l.0, counted_end v.holder (end.Trap kind) v' left' l.0 alone l.1)
      by_end end.StepLimit n l = (left', l.0, counted_end v.holder end.StepLimit v' left' l.0 alone l.1)
      by_end end.CallDepth n l = (left', l.0, counted_end v.holder end.CallDepth v' left' l.0 alone l.1)
      by_end (end.Refused r) n l = (left', l.0, counted_end v.holder (end.Refused r) v' left' l.0 alone l.1)

  pub counted_run : ((at : ℕ) → result ≡ Ok (end.Cut at) → ⊥) → IfOk result (λ e.
      (left : ℕ) × (environment : Environment) × Ends (λ w f args memory left answer u. u ≡ w) e v'.count left environment alone)
  counted_run uncut = by_result result refl
    where
      by_result : (r : Result (RunEnd ℕ) AllocError) → result ≡ r → IfOk r (λ e.
          (left : ℕ) × (environment : Environment) × Ends (λ w f args memory left answer u. u ≡ w) e v'.count left environment alone)
      by_result (Ok e) is = leads e is (λ at same. uncut at (is ∙ ap Ok same))
      by_result (Err e) is = tt
