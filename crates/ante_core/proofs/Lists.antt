-- Lists of jobs in hand and of done jobs: what holds of each of them, and what keeps it.
use Rattle.std.proofs.Common.{length-append, ◌+◌, not, add-one, zero-add, append-nil, map-id, ◌≡◌, ◌≢◌, ℕ, zero, suc, ◌<◌, ◌⊎◌, inl, inr, true, false, cond, List, [], ◌∷◌, ◌++◌, length, slice_get, Some, None, nat_eq, refl, sym, ap, subst, ◌∙◌, eq-eqb, true≢false, arith}
use Rattle.std.specs.List.{AllByRecursion}
use Rattle.std.proofs.lemmas.List.FromFn.{filter_of_map_range_with_len_more}
use Rattle.std.proofs.lemmas.Option.{none-some, same_Some}
use Rattle.std.proofs.lemmas.Bool.{or_parts, or_from, eqb-false, ne_eqb}
use Rattle.ante_core.specs.declared.DoneJob.{DoneJob}
use Rattle.ante_core.specs.declared.window.Held.{Held}
use Rattle.ante_core.specs.Machine.{held_by, without, with_frame, is_done, waiting_below}
use Rattle.ante_core.specs.Sound.{ApartBy, IsAscending}

-- of every element
module _ {A : Type 0} where
  pub all-push : (P : A → Type 0) (xs : List A) (x : A) → AllByRecursion P xs → P x → AllByRecursion P (xs ++ x ∷ [])
  all-push P [] x all here = (here, tt)
  all-push P (y ∷ ys) x all here = (all.0, all-push P ys x all.1 here)

  pub all-weaken : (P Q : A → Type 0) (xs : List A) → ((x : A) → P x → Q x) → AllByRecursion P xs → AllByRecursion Q xs
  all-weaken P Q [] weaken all = tt
  all-weaken P Q (x ∷ xs) weaken all = (weaken x all.0, all-weaken P Q xs weaken all.1)

  pub all-both : (P Q S : A → Type 0) (xs : List A) → ((x : A) → P x → Q x → S x) → AllByRecursion P xs → AllByRecursion Q xs → AllByRecursion S xs
  all-both P Q S [] both p q = tt
  all-both P Q S (x ∷ xs) both p q = (both x p.0 q.0, all-both P Q S xs both p.1 q.1)

  pub apart-push : (number : A → ℕ) (xs : List A) (x : A) → ApartBy number xs → AllByRecursion (λ y. number y ≢ number x) xs → ApartBy number (xs ++ x ∷ [])
  apart-push number [] x apart others = (tt, tt)
  apart-push number (y ∷ ys) x apart others =
      (all-push (λ z. number y ≢ number z) ys x apart.0 others.0, apart-push number ys x apart.1 others.1)

-- of the jobs in hand
module _ {F : Type 0} where
  pub all-without : (P : Held F → Type 0) (reader : ℕ) (hs : List (Held F)) → AllByRecursion P hs → AllByRecursion P (without reader hs)
  all-without P reader [] all = tt
  all-without P reader (h ∷ hs) all =
      elim (nat_eq h.reader reader) as (λ b. AllByRecursion P (cond b hs (h ∷ without reader hs))) [
        | true ↦ all.1
        | false ↦ (all.0, all-without P reader hs all.1)
      ]

  pub apart-without : (number : Held F → ℕ) (reader : ℕ) (hs : List (Held F)) → ApartBy number hs → ApartBy number (without reader hs)
  apart-without number reader [] apart = tt
  apart-without number reader (h ∷ hs) apart =
      elim (nat_eq h.reader reader) as (λ b. ApartBy number (cond b hs (h ∷ without reader hs))) [
        | true ↦ apart.1
        | false ↦ (all-without (λ y. number h ≢ number y) reader hs apart.0, apart-without number reader hs apart.1)
      ]

  -- P of the one that the reader holds
  pub all-held : (P : Held F → Type 0) (reader : ℕ) (hs : List (Held F)) (h : Held F) → AllByRecursion P hs → held_by reader hs ≡ Some h → P h
  all-held P reader [] h all held = absurd (none-some h held)
  all-held P reader (x ∷ hs) h all held =
      (elim (nat_eq x.reader reader) as (λ b. cond b (Some x) (held_by reader hs) ≡ Some h → P h) [
        | true ↦ λ held. subst P (same_Some x h held) all.0
        | false ↦ λ held. all-held P reader hs h all.1 held
      ]) held

  pub all-with_frame : (P : Held F → Type 0) (reader : ℕ) (frame : F) (hs : List (Held F)) (h : Held F) → AllByRecursion P hs → held_by reader hs ≡ Some h → P (record h { frame = frame }) → AllByRecursion P (with_frame reader frame hs)
  all-with_frame P reader frame [] h all held here = tt
  all-with_frame P reader frame (x ∷ hs) h all held here =
      (elim (nat_eq x.reader reader) as (λ b. cond b (Some x) (held_by reader hs) ≡ Some h → AllByRecursion P (cond b ((record x { frame = frame }) ∷ hs) (x ∷ with_frame reader frame hs))) [
        | true ↦ λ held. (subst (λ (y : Held F). P (record y { frame = frame })) (sym (same_Some x h held)) here, all.1)
        | false ↦ λ held. (all.0, all-with_frame P reader frame hs h all.1 held here)
      ]) held

  -- P, where it doesn't read the frame
  pub all-with_any_frame : (P : Held F → Type 0) (reader : ℕ) (frame : F) (hs : List (Held F)) → ((h : Held F) → P h → P (record h { frame = frame })) → AllByRecursion P hs → AllByRecursion P (with_frame reader frame hs)
  all-with_any_frame P reader frame [] blind all = tt
  all-with_any_frame P reader frame (x ∷ hs) blind all =
      elim (nat_eq x.reader reader) as (λ b. AllByRecursion P (cond b ((record x { frame = frame }) ∷ hs) (x ∷ with_frame reader frame hs))) [
        | true ↦ (blind x all.0, all.1)
        | false ↦ (all.0, all-with_any_frame P reader frame hs blind all.1)
      ]

  pub apart-with_frame : (number : Held F → ℕ) (reader : ℕ) (frame : F) (hs : List (Held F)) → ((h : Held F) → number (record h { frame = frame }) ≡ number h) → ApartBy number hs → ApartBy number (with_frame reader frame hs)
  apart-with_frame number reader frame [] blind apart = tt
  apart-with_frame number reader frame (x ∷ hs) blind apart =
      elim (nat_eq x.reader reader) as (λ b. ApartBy number (cond b ((record x { frame = frame }) ∷ hs) (x ∷ with_frame reader frame hs))) [
        | true ↦ (all-weaken (λ y. number x ≢ number y) (λ y. number (record x { frame = frame }) ≢ number y) hs (λ y apart e. apart (sym (blind x) ∙ e)) apart.0, apart.1)
        | false ↦ (all-with_any_frame (λ y. number x ≢ number y) reader frame hs (λ h apart e. apart (e ∙ blind h)) apart.0, apart-with_frame number reader frame hs blind apart.1)
      ]

  -- a reader that holds nothing is none of those that do
  pub all-other_readers : (reader : ℕ) (hs : List (Held F)) → held_by reader hs ≡ None → AllByRecursion (λ h. h.reader ≢ reader) hs
  all-other_readers reader [] none = tt
  all-other_readers reader (x ∷ hs) none =
      (elim (nat_eq x.reader reader) as (λ b. nat_eq x.reader reader ≡ b → cond b (Some x) (held_by reader hs) ≡ None → AllByRecursion (λ h. h.reader ≢ reader) (x ∷ hs)) [
        | true ↦ λ e none. absurd (none-some x (sym none))
        | false ↦ λ e none. ((λ same. true≢false (sym (eq-eqb x.reader reader same) ∙ e)), all-other_readers reader hs none)
      ]) refl none

  -- the other jobs have other numbers
  pub apart-others : (number : Held F → ℕ) (reader : ℕ) (hs : List (Held F)) (h : Held F) → ApartBy number hs → held_by reader hs ≡ Some h → AllByRecursion (λ y. number y ≢ number h) (without reader hs)
  apart-others number reader [] h apart held = tt
  apart-others number reader (x ∷ hs) h apart held =
      (elim (nat_eq x.reader reader) as (λ b. cond b (Some x) (held_by reader hs) ≡ Some h → AllByRecursion (λ y. number y ≢ number h) (cond b hs (x ∷ without reader hs))) [
        | true ↦ λ held. all-weaken (λ y. number x ≢ number y) (λ y. number y ≢ number h) hs (λ y differs same. differs (ap number (same_Some x h held) ∙ sym same)) apart.0
        | false ↦ λ held. (all-held (λ y. number x ≢ number y) reader hs h apart.0 held, apart-others number reader hs h apart.1 held)
      ]) held

-- of the done jobs
module _ {R : Type 0} where
  pub is_done-push : (done : List (DoneJob R)) (d : DoneJob R) (job : ℕ) → is_done done job ≡ false → d.job ≢ job → is_done (done ++ d ∷ []) job ≡ false
  is_done-push [] d job undone other = or_from (nat_eq d.job job) false (ne_eqb d.job job other) refl
  is_done-push (e ∷ done) d job undone other =
      let p = or_parts (nat_eq e.job job) (is_done done job) undone in
      or_from (nat_eq e.job job) (is_done (done ++ d ∷ []) job) p.0 (is_done-push done d job p.1 other)

  pub all-other_jobs : (done : List (DoneJob R)) (job : ℕ) → is_done done job ≡ false → AllByRecursion (λ d. d.job ≢ job) done
  all-other_jobs [] job undone = tt
  all-other_jobs (e ∷ done) job undone =
      let p = or_parts (nat_eq e.job job) (is_done done job) undone in
      (eqb-false e.job job p.0, all-other_jobs done job p.1)

-- an element of a list with one more at its end
pub slice_get-push : {A : Type 0} (xs : List A) (x y : A) (place : ℕ) → slice_get (xs ++ x ∷ []) place ≡ Some y → (slice_get xs place ≡ Some y) ⊎ ((place ≡ length xs) × (x ≡ y))
slice_get-push [] x y zero at = inr (refl, same_Some x y at)
slice_get-push [] x y (suc place) at = absurd (none-some y at)
slice_get-push (z ∷ xs) x y zero at = inl at
slice_get-push (z ∷ xs) x y (suc place) at =
    elim (slice_get-push xs x y place at) [ inl found ↦ inl found | inr last ↦ inr (ap (λ n. suc n) last.0, last.1) ]

pub slice_get-append : {A : Type 0} (xs ys : List A) (y : A) (place : ℕ) → slice_get xs place ≡ Some y → slice_get (xs ++ ys) place ≡ Some y
slice_get-append [] ys y place at = absurd (none-some y at)
slice_get-append (x ∷ xs) ys y zero at = at
slice_get-append (x ∷ xs) ys y (suc place) at = slice_get-append xs ys y place at

pub slice_get-within : {A : Type 0} (xs : List A) (y : A) (place : ℕ) → slice_get xs place ≡ Some y → place < length xs
slice_get-within [] y place at = absurd (none-some y at)
slice_get-within (x ∷ xs) y zero at = omega arith
slice_get-within (x ∷ xs) y (suc place) at = omega (arith, slice_get-within xs y place at)

-- the jobs that wait
module _ {R : Type 0} (done : List (DoneJob R)) where
  pub waiting_below_more : (n : ℕ) → waiting_below done (n + 1) ≡ cond (is_done done n) (waiting_below done n) (waiting_below done n ++ n ∷ [])
  waiting_below_more n =
      let e = filter_of_map_range_with_len_more (λ job. not (is_done done job)) (λ (x : ℕ). x) 0 n n (zero-add n) in
      simp map-id at e ∙ elim (is_done done n) as (λ b. waiting_below done n ++ cond (not b) (n ∷ []) [] ≡ cond b (waiting_below done n) (waiting_below done n ++ n ∷ [])) [
        | true ↦ append-nil (waiting_below done n)
        | false ↦ refl
      ]

  pub waiting_count_more : (n : ℕ) → length (waiting_below done (n + 1)) ≡ cond (is_done done n) (length (waiting_below done n)) (length (waiting_below done n) + 1)
  waiting_count_more n =
      ap (λ (l : List ℕ). length l) (waiting_below_more n) ∙ elim (is_done done n) as (λ b. length (cond b (waiting_below done n) (waiting_below done n ++ n ∷ [])) ≡ cond b (length (waiting_below done n)) (length (waiting_below done n) + 1)) [
        | true ↦ refl
        | false ↦ length-append (waiting_below done n) (n ∷ [])
      ]

  waiting_below-suc : (n : ℕ) → waiting_below done (suc n) ≡ cond (is_done done n) (waiting_below done n) (waiting_below done n ++ n ∷ [])
  waiting_below-suc n = subst (λ (k : ℕ). waiting_below done k ≡ cond (is_done done n) (waiting_below done n) (waiting_below done n ++ n ∷ [])) (add-one n) (waiting_below_more n)

  pub waiting-taken : (n place job : ℕ) → slice_get (waiting_below done n) place ≡ Some job → job < n
  waiting-taken zero place job at = absurd (none-some job at)
  waiting-taken (suc n) place job at =
      (elim (is_done done n) as (λ b. slice_get (cond b (waiting_below done n) (waiting_below done n ++ n ∷ [])) place ≡ Some job → job < suc n) [
        | true ↦ λ at. omega (arith, waiting-taken n place job at)
        | false ↦ λ at. elim (slice_get-push (waiting_below done n) n job place at) [
          | inl found ↦ omega (arith, waiting-taken n place job found)
          | inr last ↦ omega (arith, last.1)
        ]
      ]) (subst (λ (l : List ℕ). slice_get l place ≡ Some job) (waiting_below-suc n) at)

  pub waiting-undone : (n place job : ℕ) → slice_get (waiting_below done n) place ≡ Some job → is_done done job ≡ false
  waiting-undone zero place job at = absurd (none-some job at)
  waiting-undone (suc n) place job at =
      (elim (is_done done n) as (λ b. is_done done n ≡ b → slice_get (cond b (waiting_below done n) (waiting_below done n ++ n ∷ [])) place ≡ Some job → is_done done job ≡ false) [
        | true ↦ λ e at. waiting-undone n place job at
        | false ↦ λ e at. elim (slice_get-push (waiting_below done n) n job place at) [
          | inl found ↦ waiting-undone n place job found
          | inr last ↦ subst (λ (k : ℕ). is_done done k ≡ false) last.1 e
        ]
      ]) refl (subst (λ (l : List ℕ). slice_get l place ≡ Some job) (waiting_below-suc n) at)

  pub waiting-ascending : (n : ℕ) → IsAscending (waiting_below done n)
  waiting-ascending zero i j a b less at other = absurd (none-some a at)
  waiting-ascending (suc n) i j a b less at other =
      (elim (is_done done n) as (λ t. slice_get (cond t (waiting_below done n) (waiting_below done n ++ n ∷ [])) i ≡ Some a → slice_get (cond t (waiting_below done n) (waiting_below done n ++ n ∷ [])) j ≡ Some b → a < b) [
        | true ↦ λ at other. waiting-ascending n i j a b less at other
        | false ↦ λ at other. elim (slice_get-push (waiting_below done n) n a i at) [
          | inl found ↦ elim (slice_get-push (waiting_below done n) n b j other) [
            | inl later ↦ waiting-ascending n i j a b less found later
            | inr last ↦ omega (arith, waiting-taken n i a found, last.1)
          ]
          | inr last ↦ elim (slice_get-push (waiting_below done n) n b j other) [
            | inl later ↦ absurd (omega (arith, last.0, slice_get-within (waiting_below done n) b j later))
            | inr end ↦ absurd (omega (arith, last.0, end.0))
          ]
        ]
      ]) (subst (λ (l : List ℕ). slice_get l i ≡ Some a) (waiting_below-suc n) at) (subst (λ (l : List ℕ). slice_get l j ≡ Some b) (waiting_below-suc n) other)
