-- Names as numbers: a text's characters as digits, each worth what its place says.
use Rattle.std.proofs.Common.{◌≡◌, ℕ, zero, suc, ◌+◌, ◌*◌, ◌/◌, ◌%◌, ◌^◌, ◌<◌, ◌≤◌, Bool, true, false, cond, not, ltb, eqb, List, [], ◌∷◌, ◌++◌, map, length, take, get_or, Some, None, refl, sym, ap, ◌∙◌, subst, arith, eqb-true, ltb-true, ltb-false, lt-ltb}
use Rattle.std.specs.List.{position, range_with_len, list_all}
use Rattle.std.proofs.lemmas.List.{take_more, length-take-le}
use Rattle.std.proofs.lemmas.List.FromFn.{length-range_with_len, get_or-range_with_len}
use Rattle.std.proofs.lemmas.List.Sums.{prefix_len-le-length, prefix_len_stops, AllPass-from_list_all}
use Rattle.std.proofs.Math.Nat.{mul-le-mul_right}
use Rattle.std.proofs.lemmas.Nat.{mod-mul-add, div-mul-add, mod_below, div-add-mod'}
use Rattle.ante_pack.specs.Names.{alphabet, number_of, worth, choices, number_from, character_at}

-- ---- facts of a few numbers, by computing each

each_below : (test : ℕ → Bool) (n : ℕ) → list_all test (range_with_len 0 n) ≡ true → (k : ℕ) → k < n → test k ≡ true
each_below test n all k lt =
    let inside : k < length (range_with_len 0 n) = omega (arith, length-range_with_len 0 n) in
    let at : get_or (range_with_len 0 n) k 0 ≡ 0 + k = get_or-range_with_len 0 n k 0 lt in
    let e : get_or (range_with_len 0 n) k 0 ≡ k = omega arith in
    subst (λ (x : ℕ). test x ≡ true) e (AllPass-from_list_all test (range_with_len 0 n) all k 0 inside)

pub number_of-alphabet : (k : ℕ) → k < 32 → number_of (get_or alphabet k 0) ≡ k
unfolding number_of
number_of-alphabet k lt = eqb-true (number_of (get_or alphabet k 0)) k (each_below (λ x. eqb (number_of (get_or alphabet x 0)) x) 32 refl k lt)

-- what the places from one on can hold, and one more
abbrev pub top : ℕ → ℕ
top place = cond (ltb place 13) (choices place * worth place) 1

pub top-next : (place : ℕ) → place < 13 → top (place + 1) ≡ worth place
top-next place lt = eqb-true (top (place + 1)) (worth place) (each_below (λ x. eqb (top (x + 1)) (worth x)) 13 refl place lt)

pub top-here : (place : ℕ) → place < 13 → top place ≡ choices place * worth place
top-here place lt = rw (lt-ltb place 13 lt) refl

pub worth-positive : (place : ℕ) → place < 13 → 0 < worth place
worth-positive place lt = ltb-true 0 (worth place) (each_below (λ x. ltb 0 (worth x)) 13 refl place lt)

pub choices-most : (place : ℕ) → choices place ≤ 32
choices-most place = elim (ltb place 12) as (λ b. cond b 32 16 ≤ 32) [ true ↦ omega arith | false ↦ omega arith ]

pub choices-positive : (place : ℕ) → 0 < choices place
choices-positive place = elim (ltb place 12) as (λ b. 0 < cond b 32 16) [ true ↦ omega arith | false ↦ omega arith ]

pub digit-letter : (n place : ℕ) → n / worth place % choices place < 32
digit-letter n place = omega (arith, mod_below (n / worth place) (choices place) (choices-positive place), choices-most place)

pub top-positive : (place : ℕ) → 0 < top place
top-positive place = elim (ltb place 13) as (λ b. ltb place 13 ≡ b → 0 < cond b (choices place * worth place) 1) [ true ↦ inside | false ↦ λ e. omega arith ] refl
  where
    inside : ltb place 13 ≡ true → 0 < choices place * worth place
    inside e =
        let lt : place < 13 = ltb-true place 13 e in
        let e : top place ≡ choices place * worth place = top-here place lt in
        ltb-true 0 (choices place * worth place) (each_below (λ x. ltb 0 (choices x * worth x)) 13 refl place lt)

-- ---- characters

pub alphabet-number_of : (c : ℕ) → number_of c < 32 → get_or alphabet (number_of c) 0 ≡ c
unfolding number_of
alphabet-number_of c lt =
    let stops : not (eqb (get_or alphabet (number_of c) 0) c) ≡ false = prefix_len_stops (λ x. not (eqb x c)) alphabet 0 lt in
    eqb-true (get_or alphabet (number_of c) 0) c (opposite (eqb (get_or alphabet (number_of c) 0) c) stops)
  where
    opposite : (b : Bool) → not b ≡ false → b ≡ true
    opposite true e = refl
    opposite false e = sym e

pub same_character : (c d : ℕ) → number_of c < 32 → number_of c ≡ number_of d → c ≡ d
same_character c d lt e =
    let other : number_of d < 32 = omega arith in
    sym (alphabet-number_of c lt) ∙ ap (λ k. get_or alphabet k 0) e ∙ alphabet-number_of d other

pub number_of-dot : number_of 46 ≡ 0
unfolding number_of
number_of-dot = refl

pub number_of-most : (c : ℕ) → number_of c ≤ 32
unfolding number_of
number_of-most c = prefix_len-le-length (λ x. not (eqb x c)) alphabet

-- what is found in the alphabet
pub found : (c n : ℕ) → Some n ≡ position (λ x. eqb x c) alphabet → (number_of c ≡ n) × (n < 32)
unfolding number_of
found c n e = by (ltb (number_of c) 32) refl e
  where
    by : (b : Bool) → ltb (number_of c) 32 ≡ b → Some n ≡ cond b (Some (number_of c)) None → (number_of c ≡ n) × (n < 32)
    by true test e =
        let same : number_of c ≡ n = cc in
        (same, omega (arith, ltb-true (number_of c) 32 test))
    by false test e = absurd (cc)

pub not_found : (c : ℕ) → None ≡ position (λ x. eqb x c) alphabet → number_of c ≡ 32
unfolding number_of
not_found c e = by (ltb (number_of c) 32) refl (sym e)
  where
    by : (b : Bool) → ltb (number_of c) 32 ≡ b → cond b (Some (number_of c)) None ≡ None → number_of c ≡ 32
    by true test e = absurd (cc)
    by false test e = omega (arith, ltb-false (number_of c) 32 test, number_of-most c)

-- ---- digits

-- a digit and what stands below it
pub digit-fits : (a b w r : ℕ) → a < b → r < w → a * w + r < b * w
digit-fits a b w r lt rest = let le : (a + 1) * w ≤ b * w = mul-le-mul_right w (omega arith) in omega arith

pub digit-same : (a b w r s : ℕ) → r < w → s < w → a * w + r ≡ b * w + s → (a ≡ b) × (r ≡ s)
digit-same a b w r s lt lt' e = (sym (div-mul-add a w r lt) ∙ ap (λ n. n / w) e ∙ div-mul-add b w s lt', sym (mod-mul-add a w r lt) ∙ ap (λ n. n % w) e ∙ mod-mul-add b w s lt')

pub digit-split : (n w m : ℕ) → 0 < w → 0 < m → (n / w % m) * w + n % w ≡ n % (m * w)
digit-split n w m pos some =
    let q : ℕ = n / w / m in
    let d : ℕ = n / w % m in
    let r : ℕ = n % w in
    let low : r < w = mod_below n w pos in
    let high : d < m = mod_below (n / w) m some in
    let e : n / w * w + r ≡ n = div-add-mod' n w in
    let f : q * m + d ≡ n / w = div-add-mod' (n / w) m in
    let g : (q * m + d) * w ≡ n / w * w = ap (λ x. x * w) f in
    let whole : q * (m * w) + (d * w + r) ≡ n = omega arith in
    sym (mod-mul-add q (m * w) (d * w + r) (digit-fits d m w r high low)) ∙ ap (λ x. x % (m * w)) whole

-- the numbers of texts
number_from-push : (place : ℕ) (text : List ℕ) (c : ℕ) → number_from place (text ++ c ∷ []) ≡ number_from place text + number_of c * worth (place + length text)
number_from-push place [] c = let e : place + 0 ≡ place = omega arith in rw e (omega arith)
number_from-push place (d ∷ text) c =
    let e : place + 1 + length text ≡ place + suc (length text) = omega arith in
    let rest = subst (λ (p : ℕ). number_from (place + 1) (text ++ c ∷ []) ≡ number_from (place + 1) text + number_of c * worth p) e (number_from-push (place + 1) text c) in
    omega (arith, rest)

pub number_from-more : (text : List ℕ) (m : ℕ) → m < length text → number_from 0 (take (m + 1) text) ≡ number_from 0 (take m text) + number_of (get_or text m 0) * worth m
number_from-more text m lt =
    let e : 0 + length (take m text) ≡ m = omega (arith, length-take-le m text (omega arith)) in
    ap (number_from 0) (take_more text m 0 lt) ∙ subst (λ (p : ℕ). number_from 0 (take m text ++ get_or text m 0 ∷ []) ≡ number_from 0 (take m text) + number_of (get_or text m 0) * worth p) e (number_from-push 0 (take m text) (get_or text m 0))

-- the characters of a number, from a place to the last
pub number_from-digits : (n count place : ℕ) → place + count ≡ 13 → number_from place (map (character_at n) (range_with_len place count)) ≡ n % top place
number_from-digits n zero place e =
    let end : place ≡ 13 = omega arith in
    subst (λ (p : ℕ). 0 ≡ n % top p) (sym end) (omega arith)
number_from-digits n (suc count) place e =
    let lt : place < 13 = omega arith in
    let rest : number_from (place + 1) (map (character_at n) (range_with_len (place + 1) count)) ≡ n % worth place = number_from-digits n count (place + 1) (omega arith) ∙ ap (λ w. n % w) (top-next place lt) in
    let digit : number_of (character_at n place) ≡ n / worth place % choices place = number_of-alphabet (n / worth place % choices place) (digit-letter n place) in
    ap (λ d. d * worth place + number_from (place + 1) (map (character_at n) (range_with_len (place + 1) count))) digit
    ∙ ap (λ r. n / worth place % choices place * worth place + r) rest
    ∙ digit-split n (worth place) (choices place) (worth-positive place lt) (choices-positive place)
    ∙ ap (λ w. n % w) (sym (top-here place lt))

-- one more character
pub room-more : (number place digit : ℕ) → place < 13 → digit < choices place → number + top place ≤ 2 ^ 64 → number + digit * worth place + top (place + 1) ≤ 2 ^ 64
room-more number place digit lt small room =
    let here : top place ≡ choices place * worth place = top-here place lt in
    let next : top (place + 1) ≡ worth place = top-next place lt in
    let le : (digit + 1) * worth place ≤ choices place * worth place = mul-le-mul_right (worth place) (omega arith) in
    omega arith

-- the shift adds a character
pub shifted : (number place digit shift : ℕ) → place < 13 → digit < choices place → number + top place ≤ 2 ^ 64 → 2 ^ shift ≡ worth place → digit * 2 ^ shift % 2 ^ 64 ≡ digit * worth place
shifted number place digit shift lt small room e =
    let more : number + digit * worth place + top (place + 1) ≤ 2 ^ 64 = room-more number place digit lt small room in
    let pos : 0 < top (place + 1) = top-positive (place + 1) in
    let whole : digit * worth place % 2 ^ 64 ≡ digit * worth place = omega arith in
    ap (λ w. digit * w % 2 ^ 64) e ∙ whole
