-- What a text is read as, by the characters up to a place.
use Rattle.std.proofs.Common.{◌≡◌, ℕ, ◌+◌, ◌<◌, ◌≤◌, Bool, true, false, cond, not, ◌&&◌, ltb, leb, List, length, get_or, Ok, Err, refl, ap, ◌∙◌, subst, arith, ltb-true, ltb-false, lt-ltb, le-ltb, le-leb, below_more}
use Rattle.std.proofs.lemmas.Bool.{lt-leb}
use Rattle.std.proofs.lemmas.List.Sums.{prefix_len_is}
use Rattle.ante_pack.specs.declared.names.NameFault.TheVariants.{TooLong, BadChar, BadLast}
use Rattle.ante_pack.specs.Names.{number_of, choices, name_number, IsNameText, first_bad, name_of_text}
use Rattle.ante_pack.proofs.NameDigits.{choices-most}

letters_before : (text : List ℕ) (m : ℕ) → m ≤ length text → ((k : ℕ) → k < m → number_of (get_or text k 0) < 32) → (m < length text → number_of (get_or text m 0) ≡ 32) → first_bad text ≡ m
unfolding first_bad
letters_before text m le letters bad =
    prefix_len_is (λ c. not (leb 32 (number_of c))) text m 0 le
    (λ k lt. ap not (lt-leb 32 (number_of (get_or text k 0)) (letters k lt)))
    (λ lt. ap not (le-leb 32 (number_of (get_or text m 0)) (omega (arith, bad lt))))

pub reads-long : (text : List ℕ) → 13 < length text → name_of_text text ≡ Err TooLong
unfolding name_of_text
reads-long text lt = rw (lt-ltb 13 (length text) lt) refl

pub reads-bad : (text : List ℕ) (at : ℕ) → length text ≤ 13 → at < length text → ((k : ℕ) → k < at → number_of (get_or text k 0) < choices k) → number_of (get_or text at 0) ≡ 32 → name_of_text text ≡ Err (BadChar at)
unfolding name_of_text
reads-bad text at short lt letters bad =
    let first : first_bad text ≡ at = letters_before text at (omega arith) (λ k less. omega (arith, letters k less, choices-most k)) (λ _. bad) in
    rw (le-ltb 13 (length text) short, first, lt-ltb at (length text) lt) refl

pub reads-last : (text : List ℕ) (at : ℕ) → length text ≤ 13 → at < length text → ((k : ℕ) → k < at → number_of (get_or text k 0) < choices k) → number_of (get_or text at 0) < 32 → choices at ≤ number_of (get_or text at 0) → name_of_text text ≡ Err BadLast
unfolding name_of_text
reads-last text at short lt letters letter late =
    let twelve : at ≡ 12 = is_twelfth (ltb at 12) refl (omega arith) in
    let all : (k : ℕ) → k < at + 1 → number_of (get_or text k 0) < 32 = below_more (λ k. number_of (get_or text k 0) < 32) at (λ k less. omega (arith, letters k less, choices-most k)) letter in
    let first : first_bad text ≡ length text = letters_before text (length text) (omega arith) (λ k less. all k (omega arith)) (λ less. absurd (omega arith)) in
    let long : 12 < length text = omega arith in
    let sixteen : 16 ≤ number_of (get_or text 12 0) = subst (λ (p : ℕ). choices p ≤ number_of (get_or text p 0)) twelve late in
    rw (le-ltb 13 (length text) short, first, le-ltb (length text) (length text) (omega arith), lt-ltb 12 (length text) long, le-leb 16 (number_of (get_or text 12 0)) sixteen) refl
  where
    is_twelfth : (b : Bool) → ltb at 12 ≡ b → cond b 32 16 < 32 → at ≡ 12
    is_twelfth true e less = absurd (omega arith)
    is_twelfth false e less = omega (arith, ltb-false at 12 e)

only_after : (a b : Bool) → (a ≡ true → b ≡ false) → (a && b) ≡ false
only_after true b h = h refl
only_after false b h = refl

pub reads-name : (text : List ℕ) → length text ≤ 13 → ((k : ℕ) → k < length text → number_of (get_or text k 0) < choices k) → name_of_text text ≡ Ok (record { 0 = name_number text })
unfolding name_of_text
reads-name text short letters =
    let first : first_bad text ≡ length text = letters_before text (length text) (omega arith) (λ k less. omega (arith, letters k less, choices-most k)) (λ less. absurd (omega arith)) in
    let last : (ltb 12 (length text) && leb 16 (number_of (get_or text 12 0))) ≡ false = only_after (ltb 12 (length text)) (leb 16 (number_of (get_or text 12 0))) (λ e. lt-leb 16 (number_of (get_or text 12 0)) (letters 12 (ltb-true 12 (length text) e))) in
    rw (le-ltb 13 (length text) short, first, le-ltb (length text) (length text) (omega arith), last) refl

pub reads_back : (text : List ℕ) (n : ℕ) → IsNameText text n → name_of_text text ≡ Ok (record { 0 = n })
reads_back text n is = reads-name text is.short is.letters ∙ ap (λ (m : ℕ). Ok (record { 0 = m })) is.number
