-- Who holds which job, through the changes of the list of jobs in hand.
use Rattle.std.proofs.Common.{◌≡◌, ◌≢◌, ℕ, ◌⊎◌, inl, inr, true, false, cond, List, [], ◌∷◌, ◌++◌, Option, Some, None, option_map, nat_eq, refl, sym, ap, subst, ◌∙◌, eqb-true}
use Rattle.std.proofs.lemmas.Option.{none-some, same_Some}
use Rattle.ante_core.specs.declared.window.Held.{Held}
use Rattle.ante_core.specs.Machine.{held_by, without, with_frame}
use Rattle.ante_core.specs.Sound.{ApartBy}
use Rattle.ante_core.proofs.Lists.{all-held}

module _ {F : Type 0} where
  -- the number of the job that the reader has among these
  abbrev pub job_in : List (Held F) → ℕ → Option ℕ
  job_in hs reader = option_map (λ h. h.job) (held_by reader hs)

  pub held_by-reader : (reader : ℕ) (hs : List (Held F)) (h : Held F) → held_by reader hs ≡ Some h → h.reader ≡ reader
  held_by-reader reader [] h held = absurd (none-some h held)
  held_by-reader reader (x ∷ hs) h held =
      (elim (nat_eq x.reader reader) as (λ b. nat_eq x.reader reader ≡ b → cond b (Some x) (held_by reader hs) ≡ Some h → h.reader ≡ reader) [
        | true ↦ λ e held. subst (λ (y : Held F). y.reader ≡ reader) (same_Some x h held) (eqb-true x.reader reader e)
        | false ↦ λ e held. held_by-reader reader hs h held
      ]) refl held

  -- a job in hand after one reader's was taken away was in the same hand before
  pub held_by-without : (reader other : ℕ) (hs : List (Held F)) (h : Held F) → ApartBy (λ y. y.reader) hs → held_by other (without reader hs) ≡ Some h → held_by other hs ≡ Some h
  held_by-without reader other [] h apart held = held
  held_by-without reader other (x ∷ hs) h apart held =
      (elim (nat_eq x.reader reader) as (λ b. held_by other (cond b hs (x ∷ without reader hs)) ≡ Some h → held_by other (x ∷ hs) ≡ Some h) [
        | true ↦ λ held. (elim (nat_eq x.reader other) as (λ b. nat_eq x.reader other ≡ b → cond b (Some x) (held_by other hs) ≡ Some h) [
          | true ↦ λ e. absurd (all-held (λ y. x.reader ≢ y.reader) other hs h apart.0 held (eqb-true x.reader other e ∙ sym (held_by-reader other hs h held)))
          | false ↦ λ _. held
        ]) refl
        | false ↦ λ held. (elim (nat_eq x.reader other) as (λ b. cond b (Some x) (held_by other (without reader hs)) ≡ Some h → cond b (Some x) (held_by other hs) ≡ Some h) [
          | true ↦ λ same. same
          | false ↦ λ held. held_by-without reader other hs h apart.1 held
        ]) held
      ]) held

  pub job_in-without : (reader other job : ℕ) (hs : List (Held F)) → ApartBy (λ y. y.reader) hs → job_in (without reader hs) other ≡ Some job → job_in hs other ≡ Some job
  job_in-without reader other job hs apart held =
      (elim (held_by other (without reader hs)) as (λ o. held_by other (without reader hs) ≡ o → option_map (λ h. h.job) o ≡ Some job → job_in hs other ≡ Some job) [
        | None ↦ λ _ none. absurd (none-some job none)
        | Some h ↦ λ is same. rw (held_by-without reader other hs h apart is) same
      ]) refl held

  pub job_in-with_frame : (reader other : ℕ) (frame : F) (hs : List (Held F)) → job_in (with_frame reader frame hs) other ≡ job_in hs other
  job_in-with_frame reader other frame [] = refl
  job_in-with_frame reader other frame (x ∷ hs) =
      elim (nat_eq x.reader reader) as (λ b. job_in (cond b ((record x { frame = frame }) ∷ hs) (x ∷ with_frame reader frame hs)) other ≡ job_in (x ∷ hs) other) [
        | true ↦ elim (nat_eq x.reader other) as (λ b. option_map (λ (h : Held F). h.job) (cond b (Some (record x { frame = frame })) (held_by other hs)) ≡ option_map (λ h. h.job) (cond b (Some x) (held_by other hs))) [ true ↦ refl | false ↦ refl ]
        | false ↦ elim (nat_eq x.reader other) as (λ b. option_map (λ (h : Held F). h.job) (cond b (Some x) (held_by other (with_frame reader frame hs))) ≡ option_map (λ h. h.job) (cond b (Some x) (held_by other hs))) [
          | true ↦ refl
          | false ↦ job_in-with_frame reader other frame hs
        ]
      ]

  -- one more job in hand
  pub job_in-push : (other job : ℕ) (hs : List (Held F)) (h : Held F) → job_in (hs ++ h ∷ []) other ≡ Some job → (job_in hs other ≡ Some job) ⊎ ((job_in hs other ≡ None) × (h.reader ≡ other))
  job_in-push other job [] h held =
      (elim (nat_eq h.reader other) as (λ b. nat_eq h.reader other ≡ b → option_map (λ (h : Held F). h.job) (cond b (Some h) None) ≡ Some job → (None ≡ Some job) ⊎ ((◌≡◌ {A = Option ℕ} None None) × (h.reader ≡ other))) [
        | true ↦ λ e _. inr (refl, eqb-true h.reader other e)
        | false ↦ λ _ none. absurd (none-some job none)
      ]) refl held
  job_in-push other job (x ∷ hs) h held =
      (elim (nat_eq x.reader other) as (λ b. option_map (λ (h : Held F). h.job) (cond b (Some x) (held_by other (hs ++ h ∷ []))) ≡ Some job → (option_map (λ (h : Held F). h.job) (cond b (Some x) (held_by other hs)) ≡ Some job) ⊎ ((option_map (λ (h : Held F). h.job) (cond b (Some x) (held_by other hs)) ≡ None) × (h.reader ≡ other))) [
        | true ↦ λ same. inl same
        | false ↦ λ held. job_in-push other job hs h held
      ]) held

  -- jobs in hand are distinct, so a job is in one reader's hands
  pub one_reader : (reader other : ℕ) (hs : List (Held F)) (h k : Held F) → ApartBy (λ y. y.job) hs → held_by reader hs ≡ Some h → held_by other hs ≡ Some k → h.job ≡ k.job → reader ≡ other
  one_reader reader other [] h k apart held holds same = absurd (none-some h held)
  one_reader reader other (x ∷ hs) h k apart held holds same =
      (elim (nat_eq x.reader reader) as (λ b. nat_eq x.reader reader ≡ b → cond b (Some x) (held_by reader hs) ≡ Some h → reader ≡ other) [
        | true ↦ λ mine held. (elim (nat_eq x.reader other) as (λ b. nat_eq x.reader other ≡ b → cond b (Some x) (held_by other hs) ≡ Some k → reader ≡ other) [
          | true ↦ λ theirs _. sym (eqb-true x.reader reader mine) ∙ eqb-true x.reader other theirs
          | false ↦ λ _ holds. absurd (all-held (λ y. x.job ≢ y.job) other hs k apart.0 holds (ap (λ (y : Held F). y.job) (same_Some x h held) ∙ same))
        ]) refl holds
        | false ↦ λ _ held. (elim (nat_eq x.reader other) as (λ b. cond b (Some x) (held_by other hs) ≡ Some k → reader ≡ other) [
          | true ↦ λ holds. absurd (all-held (λ y. x.job ≢ y.job) reader hs h apart.0 held (ap (λ (y : Held F). y.job) (same_Some x k holds) ∙ sym same))
          | false ↦ λ holds. one_reader reader other hs h k apart.1 held holds same
        ]) holds
      ]) refl held
