-- Each number has one name: no number has two, and each of 64 bits has one.
use Rattle.std.proofs.Common.{◌≡◌, ◌≢◌, ℕ, zero, suc, ◌+◌, ◌-◌, ◌*◌, ◌/◌, ◌%◌, ◌^◌, ◌<◌, ◌≤◌, Bool, true, false, eqb, List, [], ◌∷◌, map, length, take, get_or, refl, sym, ap, ◌∙◌, subst, arith, eqb-true, eq-eqb, ne_eqb, add-one, true≢false, below_more, set, get_or-set_other, get_or-set_same, length-set}
use Rattle.std.proofs.lemmas.Bool.{eqb-false}
use Rattle.std.proofs.lemmas.Grind.{same_number_lists, get_or-set_at}
use Rattle.std.specs.List.{suffix_len, range_with_len}
use Rattle.std.proofs.lemmas.List.{take_all, length-take-le, get_or-take}
use Rattle.std.proofs.lemmas.List.FromFn.{length-map-range_with_len, get_or-map-range_with_len}
use Rattle.std.proofs.lemmas.List.Sums.{suffix_len_is, suffix_len-take_yes, suffix_len-take_no}
use Rattle.std.proofs.Math.Nat.{mul-le-mul_right}
use Rattle.std.proofs.lemmas.Nat.{mod_below}
use Rattle.ante_pack.specs.Names.{alphabet, number_of, worth, choices, number_from, name_number, IsNameText, character_at, without_dots, name_text}
use Rattle.ante_pack.proofs.NameDigits.{choices-most, choices-positive, digit-letter, top, top-next, top-here, top-positive, worth-positive, number_of-alphabet, alphabet-number_of, same_character, number_of-dot, digit-fits, digit-same, number_from-more, number_from-digits}

-- ---- no number has two

-- the text may stand from a place on
abbrev pub Stands : ℕ → List ℕ → Type 0
Stands place [] = Unit {0}
Stands place (c ∷ text) = (place < 13) × (number_of c < choices place) × Stands (place + 1) text

-- its last character is no dot
abbrev pub EndsWell : List ℕ → Type 0
EndsWell [] = Unit {0}
EndsWell (c ∷ []) = c ≢ 46
EndsWell (c ∷ d ∷ text) = EndsWell (d ∷ text)

EndsWell-tail : (c : ℕ) (text : List ℕ) → EndsWell (c ∷ text) → EndsWell text
EndsWell-tail c [] h = tt
EndsWell-tail c (d ∷ text) h = h

Stands-small : (place : ℕ) (text : List ℕ) → Stands place text → number_from place text < top place
Stands-small place [] h = top-positive place
Stands-small place (c ∷ text) h =
    let rest : number_from (place + 1) text < worth place = subst (λ (n : ℕ). number_from (place + 1) text < n) (top-next place h.0) (Stands-small (place + 1) text h.2) in
    subst (λ (n : ℕ). number_of c * worth place + number_from (place + 1) text < n) (sym (top-here place h.0)) (digit-fits (number_of c) (choices place) (worth place) (number_from (place + 1) text) h.1 rest)

Stands-letter : (place c : ℕ) (text : List ℕ) → Stands place (c ∷ text) → number_of c < 32
Stands-letter place c text h = omega (arith, choices-most place, h.1)

Stands-positive : (place c : ℕ) (text : List ℕ) → Stands place (c ∷ text) → EndsWell (c ∷ text) → 0 < number_from place (c ∷ text)
Stands-positive place c [] h ends =
    let letter : number_of c < 32 = Stands-letter place c [] h in
    let some : number_of c ≢ 0 = λ e. ends (sym (alphabet-number_of c letter) ∙ ap (λ k. get_or alphabet k 0) e) in
    let pos : 0 < worth place = worth-positive place h.0 in
    let le : 1 * worth place ≤ number_of c * worth place = mul-le-mul_right (worth place) (omega arith) in
    omega arith
Stands-positive place c (d ∷ text) h ends = omega (arith, Stands-positive (place + 1) d text h.2 ends)

same_text : (place : ℕ) (text other : List ℕ) → Stands place text → Stands place other → EndsWell text → EndsWell other → number_from place text ≡ number_from place other → text ≡ other
same_text place [] [] h k ends ends' e = refl
same_text place [] (d ∷ other) h k ends ends' e = absurd (omega (arith, Stands-positive place d other k ends'))
same_text place (c ∷ text) [] h k ends ends' e = absurd (omega (arith, Stands-positive place c text h ends))
same_text place (c ∷ text) (d ∷ other) h k ends ends' e =
    let below : number_from (place + 1) text < worth place = subst (λ (n : ℕ). number_from (place + 1) text < n) (top-next place h.0) (Stands-small (place + 1) text h.2) in
    let below' : number_from (place + 1) other < worth place = subst (λ (n : ℕ). number_from (place + 1) other < n) (top-next place h.0) (Stands-small (place + 1) other k.2) in
    let both = digit-same (number_of c) (number_of d) (worth place) (number_from (place + 1) text) (number_from (place + 1) other) below below' e in
    let head : c ≡ d = same_character c d (Stands-letter place c text h) both.0 in
    let tail : text ≡ other = same_text (place + 1) text other h.2 k.2 (EndsWell-tail c text ends) (EndsWell-tail d other ends') both.1 in
    ap (λ x. x ∷ text) head ∙ ap (λ (xs : List ℕ). d ∷ xs) tail

Stands-from : (place : ℕ) (text : List ℕ) → place + length text ≤ 13 → ((k : ℕ) → k < length text → number_of (get_or text k 0) < choices (place + k)) → Stands place text
Stands-from place [] fits h = tt
Stands-from place (c ∷ text) fits h =
    let here : place + 0 ≡ place = omega arith in (
      omega arith,
      subst (λ (n : ℕ). number_of c < choices n) here (h 0 (omega arith)),
      Stands-from (place + 1) text (omega arith) (λ k lt.
          let next : place + suc k ≡ place + 1 + k = omega arith in
          subst (λ (n : ℕ). number_of (get_or text k 0) < choices n) next (h (suc k) (omega arith))),
    )

EndsWell-from : (text : List ℕ) → (0 < length text → get_or text (length text - 1) 0 ≢ 46) → EndsWell text
EndsWell-from [] h = tt
EndsWell-from (c ∷ []) h = h (omega arith)
EndsWell-from (c ∷ d ∷ text) h =
    EndsWell-from (d ∷ text) (λ _.
    let e : suc (suc (length text)) - 1 ≡ suc (suc (length text) - 1) = omega arith in
    subst (λ (k : ℕ). get_or (c ∷ d ∷ text) k 0 ≢ 46) e (h (omega arith)))

pub IsNameText-stands : (text : List ℕ) (n : ℕ) → IsNameText text n → Stands 0 text
IsNameText-stands text n is = Stands-from 0 text (omega (arith, is.short)) (λ k lt.
    let e : k ≡ 0 + k = omega arith in
    subst (λ (p : ℕ). number_of (get_or text k 0) < choices p) e (is.letters k lt))

pub one_text : (text other : List ℕ) (n : ℕ) → IsNameText text n → IsNameText other n → text ≡ other
unfolding name_number
one_text text other n is is' =
    same_text 0 text other (IsNameText-stands text n is) (IsNameText-stands other n is') (EndsWell-from text is.no_dot) (EndsWell-from other is'.no_dot) (is.number ∙ sym is'.number)

pub fits_word : (text : List ℕ) (n : ℕ) → IsNameText text n → n < 2 ^ 64
unfolding name_number
fits_word text n is = subst (λ (m : ℕ). m < 2 ^ 64) is.number (Stands-small 0 text (IsNameText-stands text n is))

-- ---- each number has one

-- the text without the dots at its end, taken up to a place
abbrev pub trimmed : List ℕ → ℕ → ℕ
trimmed text n = n - suffix_len (λ c. eqb c 46) (take n text)

trimmed-dot : (text : List ℕ) (m : ℕ) → m < length text → eqb (get_or text m 0) 46 ≡ true → trimmed text (m + 1) ≡ trimmed text m
trimmed-dot text m lt dot =
    let e : m + 1 - 1 ≡ m = omega arith in
    let test : eqb (get_or text (m + 1 - 1) 0) 46 ≡ true = subst (λ (k : ℕ). eqb (get_or text k 0) 46 ≡ true) (sym e) dot in
    let yes = suffix_len-take_yes (λ c. eqb c 46) text (m + 1) 0 (omega arith) (omega arith) test in
    let count : suffix_len (λ c. eqb c 46) (take (m + 1) text) ≡ 1 + suffix_len (λ c. eqb c 46) (take m text) = subst (λ (k : ℕ). suffix_len (λ c. eqb c 46) (take (m + 1) text) ≡ 1 + suffix_len (λ c. eqb c 46) (take k text)) e yes in
    omega arith

trimmed-other : (text : List ℕ) (m : ℕ) → m < length text → eqb (get_or text m 0) 46 ≡ false → trimmed text (m + 1) ≡ m + 1
trimmed-other text m lt other =
    let e : m + 1 - 1 ≡ m = omega arith in
    let test : eqb (get_or text (m + 1 - 1) 0) 46 ≡ false = subst (λ (k : ℕ). eqb (get_or text k 0) 46 ≡ false) (sym e) other in
    let no : suffix_len (λ c. eqb c 46) (take (m + 1) text) ≡ 0 = suffix_len-take_no (λ c. eqb c 46) text (m + 1) 0 (omega arith) (omega arith) test in
    omega arith

-- dots at the end don't count, and before them stands none
pub record IsTrimmed (text : List ℕ) (n k : ℕ) : Type 0 where
  pub number : number_from 0 (take k text) ≡ number_from 0 (take n text)
  pub no_dot : 0 < k → get_or text (k - 1) 0 ≢ 46

trimmed-more : (text : List ℕ) (m : ℕ) → m < length text → IsTrimmed text m (trimmed text m) → (b : Bool) → eqb (get_or text m 0) 46 ≡ b → IsTrimmed text (m + 1) (trimmed text (m + 1))
trimmed-more text m lt before true e =
    let zeros : number_of (get_or text m 0) ≡ 0 = ap number_of (eqb-true (get_or text m 0) 46 e) ∙ number_of-dot in
    let none : number_of (get_or text m 0) * worth m ≡ 0 * worth m = ap (λ x. x * worth m) zeros in
    let more : number_from 0 (take (m + 1) text) ≡ number_from 0 (take m text) + number_of (get_or text m 0) * worth m = number_from-more text m lt in
    let same : number_from 0 (take m text) ≡ number_from 0 (take (m + 1) text) = omega arith in
    subst (λ (k : ℕ). IsTrimmed text (m + 1) k) (sym (trimmed-dot text m lt e)) (record { number = before.number ∙ same; no_dot = before.no_dot })
trimmed-more text m lt before false e =
    let back : m + 1 - 1 ≡ m = omega arith in
    subst (λ (k : ℕ). IsTrimmed text (m + 1) k) (sym (trimmed-other text m lt e)) (record {
      number = refl;
      no_dot = λ _. subst (λ (k : ℕ). get_or text k 0 ≢ 46) (sym back) (λ is. true≢false (sym (eq-eqb (get_or text m 0) 46 is) ∙ e));
    })

trimmed-is : (text : List ℕ) (n : ℕ) → n ≤ length text → IsTrimmed text n (trimmed text n)
trimmed-is text zero le =
    let e : trimmed text 0 ≡ 0 = omega arith in
    subst (λ (k : ℕ). IsTrimmed text 0 k) (sym e) (record { number = refl; no_dot = λ some. absurd (omega arith) })
trimmed-is text (suc m) le = subst (λ (n : ℕ). IsTrimmed text n (trimmed text n)) (add-one m) (trimmed-more text m (omega arith) (trimmed-is text m (omega arith)) (eqb (get_or text m 0) 46) refl)

digit-fits_place : (n place : ℕ) → number_of (character_at n place) < choices place
digit-fits_place n place = subst (λ (d : ℕ). d < choices place) (sym (number_of-alphabet (n / worth place % choices place) (digit-letter n place))) (mod_below (n / worth place) (choices place) (choices-positive place))

-- a text of thirteen characters is a name without the dots at its end
names_without_dots : (text : List ℕ) (n : ℕ) → length text ≡ 13 → ((k : ℕ) → k < 13 → number_of (get_or text k 0) < choices k) → number_from 0 text ≡ n → IsNameText (without_dots text) n
unfolding name_number
names_without_dots text n len letters number =
    let whole : take (length text) text ≡ text = take_all (length text) text (omega arith) in
    let kept : ℕ = length text - suffix_len (λ c. eqb c 46) text in
    let is : IsTrimmed text (length text) kept = subst (λ (xs : List ℕ). IsTrimmed text (length text) (length text - suffix_len (λ c. eqb c 46) xs)) whole (trimmed-is text (length text) (omega arith)) in
    let fits : length (take kept text) ≡ kept = length-take-le kept text (omega arith) in
    record {
      short = omega arith;
      letters = λ k lt.
          let within : k < kept = omega arith in
          subst (λ (c : ℕ). number_of c < choices k) (sym (get_or-take kept text k 0 within)) (letters k (omega arith));
      no_dot = λ some.
          let last : length (take kept text) - 1 < kept = omega arith in
          let e : length (take kept text) - 1 ≡ kept - 1 = omega arith in
          subst (λ (c : ℕ). c ≢ 46) (sym (get_or-take kept text (length (take kept text) - 1) 0 last)) (subst (λ (k : ℕ). get_or text k 0 ≢ 46) (sym e) (is.no_dot (omega arith)));
      number = is.number ∙ ap (number_from 0) whole ∙ number;
    }

pub some_text : (n : ℕ) → n < 2 ^ 64 → IsNameText (name_text n) n
unfolding name_text
some_text n lt =
    let whole : n % 2 ^ 64 ≡ n = omega arith in
    names_without_dots (map (character_at n) (range_with_len 0 13)) n (length-map-range_with_len (character_at n) 0 13)
    (λ k small.
    let e : 0 + k ≡ k = omega arith in
    let at : get_or (map (character_at n) (range_with_len 0 13)) k 0 ≡ character_at n k = get_or-map-range_with_len (character_at n) 0 13 k k 0 small e in
    subst (λ (c : ℕ). number_of c < choices k) (sym at) (digit-fits_place n k))
    (number_from-digits n 13 0 refl ∙ whole)

-- ---- the text as it is written

-- the first places of a number's text are there, and the rest are dots; the length is that without dots at the end
pub record IsShown (n place len : ℕ) (text : List ℕ) : Type 0 where
  pub thirteen : length text ≡ 13
  pub within : len ≤ place
  pub written : (k : ℕ) → k < place → get_or text k 0 ≡ character_at n k
  pub dots : (k : ℕ) → len ≤ k → k < 13 → get_or text k 0 ≡ 46
  pub last : 0 < len → get_or text (len - 1) 0 ≢ 46

no_dot_at : (n place : ℕ) → n / worth place % choices place ≢ 0 → character_at n place ≢ 46
no_dot_at n place some is = some (sym (number_of-alphabet (n / worth place % choices place) (digit-letter n place)) ∙ ap number_of is ∙ number_of-dot)

written-more : (n place len : ℕ) (text : List ℕ) → place < 13 → IsShown n place len text → (k : ℕ) → k < place + 1 → get_or (set text place (character_at n place)) k 0 ≡ character_at n k
written-more n place len text lt is =
    below_more (λ k. get_or (set text place (character_at n place)) k 0 ≡ character_at n k) place
    (λ k less. let ne : k ≢ place = omega arith in rw get_or-set_other (is.written k less))
    (let inside : place < length text = omega (arith, is.thirteen) in rw get_or-set_same refl)

pub shown-more : (n place len : ℕ) (text : List ℕ) → place < 13 → IsShown n place len text → n / worth place % choices place ≢ 0 → IsShown n (place + 1) (place + 1) (set text place (character_at n place))
shown-more n place len text lt is some =
    let inside : place < length text = omega (arith, is.thirteen) in
    record {
      thirteen = length-set text place (character_at n place) ∙ is.thirteen;
      within = omega arith;
      written = written-more n place len text lt is;
      dots = λ k le less. let ne : k ≢ place = omega arith in rw get_or-set_other (is.dots k (omega (arith, is.within)) less);
      last = λ _.
          let e : place ≡ place + 1 - 1 = omega arith in
          subst (λ (k : ℕ). get_or (set text place (character_at n place)) k 0 ≢ 46) e (rw get_or-set_same (no_dot_at n place some));
    }

dot-set : (text : List ℕ) (place k c : ℕ) → place < length text → c ≡ 46 → get_or text k 0 ≡ 46 → (b : Bool) → eqb k place ≡ b → get_or (set text place c) k 0 ≡ 46
dot-set text place k c inside dot old true e = get_or-set_at text place k c 0 (eqb-true k place e) inside ∙ dot
dot-set text place k c inside dot old false e = get_or-set_other text place k c 0 (eqb-false k place e) ∙ old

pub shown-dot : (n place len : ℕ) (text : List ℕ) → place < 13 → IsShown n place len text → n / worth place % choices place ≡ 0 → IsShown n (place + 1) len (set text place (character_at n place))
shown-dot n place len text lt is none =
    let inside : place < length text = omega (arith, is.thirteen) in
    let dot : character_at n place ≡ 46 = ap (λ d. get_or alphabet d 0) none in
    record {
      thirteen = length-set text place (character_at n place) ∙ is.thirteen;
      within = omega (arith, is.within);
      written = written-more n place len text lt is;
      dots = λ k le less. dot-set text place k (character_at n place) inside dot (is.dots k le less) (eqb k place) refl;
      last = λ some.
          let ne : len - 1 ≢ place = omega (arith, is.within) in
          rw get_or-set_other (is.last some);
    }

pub shown-all : (n len : ℕ) (text : List ℕ) → IsShown n 13 len text → take len text ≡ name_text n
unfolding name_text
shown-all n len text is =
    let thirteen : length text ≡ 13 = is.thirteen in
    let within : len ≤ 13 = is.within in
    let all : List ℕ = map (character_at n) (range_with_len 0 13) in
    let same : text ≡ map (character_at n) (range_with_len 0 13) = same_number_lists text (map (character_at n) (range_with_len 0 13)) (thirteen ∙ sym (length-map-range_with_len (character_at n) 0 13)) (λ k lt.
    let small : k < 13 = omega arith in
    let e : 0 + k ≡ k = omega arith in
    is.written k small ∙ sym (get_or-map-range_with_len (character_at n) 0 13 k k 0 small e)) in
    let tail : suffix_len (λ c. eqb c 46) text ≡ length text - len = suffix_len_is (λ c. eqb c 46) text len 0 (omega arith)
    (λ k le lt. eq-eqb (get_or text k 0) 46 (is.dots k le (omega arith)))
    (λ some. ne_eqb (get_or text (len - 1) 0) 46 (is.last some)) in
    let e : len ≡ length text - suffix_len (λ c. eqb c 46) text = omega arith in
    ap (λ k. take k text) e ∙ ap without_dots same
