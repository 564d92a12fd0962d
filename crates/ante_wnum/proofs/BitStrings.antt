-- The strings of bits of `Integers` against numbers: what taking them apart, joining and counting gives. All at any width.
use Rattle.std.proofs.Common.{◌≡◌, ℕ, zero, suc, ◌+◌, ◌*◌, ◌/◌, ◌%◌, ◌^◌, min, max, List, [], ◌∷◌, ◌++◌, length, take, drop, refl, sym, ap, ◌∙◌, arith, length-append}
use Rattle.std.proofs.lemmas.Nat.{pow-add, shr-shr, mod-pow-add}
use Rattle.std.proofs.lemmas.Nat.Bits.{bit_at_lowest, bit_at-suc, bit_at_and, bit_at_or, bit_at_xor}
use Rattle.std.proofs.Math.Nat.{mod-one, pow-suc}
use Rattle.std.specs.Int.{bit_at}
use Rattle.std.specs.Prelude.{replicate, bit_and, bit_or, bit_xor}
use Rattle.ante_wnum.specs.Numerics.{ibits, integer, joined}

-- ---- taken apart

-- the last bit is the lowest
pub ibits-last : (k i : ℕ) → ibits (suc k) i ≡ ibits k (i / 2) ++ (i % 2) ∷ []
unfolding ibits
ibits-last zero i = ap (λ d. d ∷ []) (bit_at_lowest i)
ibits-last (suc k) i = ap (λ d. d ∷ ibits (suc k) i) (bit_at-suc i k) ∙ ap (λ ds. bit_at (i / 2) k ∷ ds) (ibits-last k i)

pub length-ibits : (k i : ℕ) → length (ibits k i) ≡ k
unfolding ibits
length-ibits zero i = refl
length-ibits (suc k) i = ap suc (length-ibits k i)

pub drop-ibits : (k n N i : ℕ) → N ≡ k + n → drop k (ibits N i) ≡ ibits n i
unfolding ibits
drop-ibits zero n N i e = let same : N ≡ n = omega arith in ap (λ x. ibits x i) same
drop-ibits (suc k) n zero i e = absurd (omega arith)
drop-ibits (suc k) n (suc N) i e = drop-ibits k n N i (omega arith)

pub take-ibits : (k n N i : ℕ) → N ≡ k + n → take k (ibits N i) ≡ ibits k (i / 2 ^ n)
unfolding ibits
take-ibits zero n N i e = refl
take-ibits (suc k) n zero i e = absurd (omega arith)
take-ibits (suc k) n (suc N) i e =
    let at : N ≡ n + k = omega arith in
    let bit : bit_at i N ≡ bit_at (i / 2 ^ n) k = ap (bit_at i) at ∙ ap (λ x. x % 2) (sym (shr-shr i n k)) in
    ap (λ d. d ∷ take k (ibits N i)) bit ∙ ap (λ ds. bit_at (i / 2 ^ n) k ∷ ds) (take-ibits k n N i (omega arith))

-- ---- put together

pub integer-ibits : (k i : ℕ) → integer (ibits k i) ≡ i % 2 ^ k
unfolding ibits integer
integer-ibits zero i = sym (mod-one i)
integer-ibits (suc k) i =
    let next : suc k ≡ 1 + k = omega arith in
    ap (λ x. bit_at i k * 2 ^ x + integer (ibits k i)) (length-ibits k i) ∙ ap (λ x. bit_at i k * 2 ^ k + x) (integer-ibits k i)
    ∙ sym (mod-pow-add i 1 k) ∙ ap (λ x. i % 2 ^ x) (sym next)

pub integer-append : (xs ys : List ℕ) → integer (xs ++ ys) ≡ integer xs * 2 ^ length ys + integer ys
unfolding integer
integer-append [] ys = omega arith
integer-append (x ∷ xs) ys =
    let worth : 2 ^ length (xs ++ ys) ≡ 2 ^ length xs * 2 ^ length ys = ap (λ n. 2 ^ n) (length-append xs ys) ∙ pow-add 2 (length xs) (length ys) in
    ap (λ p. x * p + integer (xs ++ ys)) worth ∙ omega (arith, integer-append xs ys)

pub length-copies : (k d : ℕ) → length (replicate k d) ≡ k
length-copies zero d = refl
length-copies (suc k) d = ap suc (length-copies k d)

pub integer-zeros : (k : ℕ) → integer (replicate k 0) ≡ 0
unfolding integer
integer-zeros zero = refl
integer-zeros (suc k) = omega (arith, integer-zeros k)

pub integer-ones : (k : ℕ) → integer (replicate k 1) + 1 ≡ 2 ^ k
unfolding integer
integer-ones zero = refl
integer-ones (suc k) =
    let worth : 2 ^ length (replicate k 1) ≡ 2 ^ k = ap (λ n. 2 ^ n) (length-copies k 1) in
    omega (arith, integer-ones k, worth, pow-suc 2 k)

-- ---- joined

pub ibits-and : (k i j : ℕ) → joined min (ibits k i) (ibits k j) ≡ ibits k (bit_and i j)
unfolding ibits
ibits-and zero i j = refl
ibits-and (suc k) i j = ap (λ d. d ∷ joined min (ibits k i) (ibits k j)) (sym (bit_at_and i j k)) ∙ ap (λ ds. bit_at (bit_and i j) k ∷ ds) (ibits-and k i j)

pub ibits-or : (k i j : ℕ) → joined max (ibits k i) (ibits k j) ≡ ibits k (bit_or i j)
unfolding ibits
ibits-or zero i j = refl
ibits-or (suc k) i j = ap (λ d. d ∷ joined max (ibits k i) (ibits k j)) (sym (bit_at_or i j k)) ∙ ap (λ ds. bit_at (bit_or i j) k ∷ ds) (ibits-or k i j)

pub ibits-xor : (k i j : ℕ) → joined (λ c d. (c + d) % 2) (ibits k i) (ibits k j) ≡ ibits k (bit_xor i j)
unfolding ibits
ibits-xor zero i j = refl
ibits-xor (suc k) i j =
    ap (λ d. d ∷ joined (λ c e. (c + e) % 2) (ibits k i) (ibits k j)) (sym (bit_at_xor i j k)) ∙ ap (λ ds. bit_at (bit_xor i j) k ∷ ds) (ibits-xor k i j)
