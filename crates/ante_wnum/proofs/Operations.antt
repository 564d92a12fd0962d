-- What each operation on strings of bits is as arithmetic, which is what std's methods say. All at any width N.
use Rattle.std.proofs.Common.{◌≡◌, ℕ, zero, suc, ◌+◌, ◌*◌, ◌/◌, ◌%◌, ◌^◌, ◌<◌, ◌≤◌, ◌==◌, Bool, cond, List, [], ◌∷◌, refl, sym, ap, ◌∙◌, subst, inl, inr, ◌⊎◌, ⊎_elim, arith, mod-lt, mod-eq_of_lt}
use Rattle.std.proofs.lemmas.Nat.{pow_pos, mod-pow-add, shr_below, or_lt, xor_lt, and_le_l}
use Rattle.std.proofs.lemmas.Nat.Bits.{bit_at-lt}
use Rattle.std.proofs.lemmas.List.{reverse-append}
use Rattle.std.proofs.lemmas.List.Sums.{sum_by-append}
use Rattle.std.proofs.lemmas.Bool.{cases_lt}
use Rattle.std.proofs.Math.Nat.{div-eq_of_lt, pow-suc}
use Rattle.std.specs.Int.{bit_at}
use Rattle.std.specs.Int.Count.{ones, ones_step, count_leading_zeros, count_trailing_zeros, leading_unique, under}
use Rattle.std.specs.List.{prefix_len}
use Rattle.std.specs.Prelude.{reverse, bit_and, bit_or, bit_xor, count_by}
use Rattle.ante_wnum.specs.Numerics.{ibits, integer, iand, ior, ixor, iclz, ictz, ipopcnt}
use Rattle.ante_wnum.proofs.BitStrings.{ibits-last, integer-ibits, ibits-and, ibits-or, ibits-xor}

-- ---- bit by bit

pub iand-is : (N i j : ℕ) → i < 2 ^ N → iand N i j ≡ bit_and i j
iand-is N i j p = ap integer (ibits-and N i j) ∙ integer-ibits N (bit_and i j) ∙ mod-eq_of_lt (omega (arith, and_le_l i j))

pub ior-is : (N i j : ℕ) → i < 2 ^ N → j < 2 ^ N → ior N i j ≡ bit_or i j
ior-is N i j p q = ap integer (ibits-or N i j) ∙ integer-ibits N (bit_or i j) ∙ mod-eq_of_lt (or_lt N i j p q)

pub ixor-is : (N i j : ℕ) → i < 2 ^ N → j < 2 ^ N → ixor N i j ≡ bit_xor i j
ixor-is N i j p q = ap integer (ibits-xor N i j) ∙ integer-ibits N (bit_xor i j) ∙ mod-eq_of_lt (xor_lt N i j p q)

-- ---- counts

abbrev clear : ℕ → Bool
clear d = d == 0

-- the top bit is 0 just where the integer is below its worth
top_clear : (k i : ℕ) → i < 2 ^ suc k → bit_at i k ≡ 0 → i < 2 ^ k
top_clear k i h e =
    let parts : i % 2 ^ (1 + k) ≡ (i / 2 ^ k % 2 ^ 1) * 2 ^ k + i % 2 ^ k = mod-pow-add i 1 k in
    let next : 1 + k ≡ suc k = omega arith in
    let whole : i % 2 ^ (1 + k) ≡ i = ap (λ x. i % 2 ^ x) next ∙ mod-eq_of_lt h in
    let low : i ≡ i % 2 ^ k = sym whole ∙ parts ∙ ap (λ d. d * 2 ^ k + i % 2 ^ k) e ∙ omega arith in
    subst (λ x. x < 2 ^ k) (sym low) (mod-lt i (pow_pos k))

top_set : (k i : ℕ) → bit_at i k ≡ 1 → 2 ^ k ≤ i
top_set k i e = ⊎_elim (λ h. absurd (let none : bit_at i k ≡ 0 = ap (λ q. q % 2) (div-eq_of_lt h) in omega arith)) (λ h. h) (cases_lt i (2 ^ k))

-- a bit is 0 or 1
bit_cases : (i k : ℕ) → (bit_at i k ≡ 0) ⊎ (bit_at i k ≡ 1)
bit_cases i k = go (bit_at i k) (bit_at-lt i k)
  where
    go : (d : ℕ) → d < 2 → (d ≡ 0) ⊎ (d ≡ 1)
    go zero h = inl refl
    go (suc d) h = inr (omega arith)

front_clear : (d : ℕ) (ds : List ℕ) → d ≡ 0 → prefix_len clear (d ∷ ds) ≡ 1 + prefix_len clear ds
front_clear d ds e = ap (λ x. prefix_len clear (x ∷ ds)) e

front_set : (d : ℕ) (ds : List ℕ) → d ≡ 1 → prefix_len clear (d ∷ ds) ≡ 0
front_set d ds e = ap (λ x. prefix_len clear (x ∷ ds)) e

-- with the zeros in front, the digits of i make k
leading : (k i : ℕ) → i < 2 ^ k → (m : ℕ) × (prefix_len clear (ibits k i) + m ≡ k) × (i < 2 ^ m) × (2 ^ m ≤ 2 * i + 1)
unfolding ibits
leading zero i h = (0, refl, h, omega arith)
leading (suc k) i h = go (bit_cases i k) (leading k i)
  where
    go : (bit_at i k ≡ 0) ⊎ (bit_at i k ≡ 1) → (i < 2 ^ k → (m : ℕ) × (prefix_len clear (ibits k i) + m ≡ k) × (i < 2 ^ m) × (2 ^ m ≤ 2 * i + 1))
        → (m : ℕ) × (prefix_len clear (bit_at i k ∷ ibits k i) + m ≡ suc k) × (i < 2 ^ m) × (2 ^ m ≤ 2 * i + 1)
    go (inl e) rest = let r = rest (top_clear k i h e) in (r.0, omega (arith, front_clear (bit_at i k) (ibits k i) e), r.2, r.3)
    go (inr e) rest = (suc k, omega (arith, front_set (bit_at i k) (ibits k i) e), h, omega (arith, top_set k i e, pow-suc 2 k))

pub iclz-is : (N i : ℕ) → i < 2 ^ N → iclz N i ≡ count_leading_zeros N i
iclz-is N i h = let r = leading N i h in leading_unique N i (iclz N i) r.0 r.1 r.2 r.3

reverse-ibits : (k i : ℕ) → reverse (ibits (suc k) i) ≡ (i % 2) ∷ reverse (ibits k (i / 2))
reverse-ibits k i = ap reverse (ibits-last k i) ∙ reverse-append (ibits k (i / 2)) ((i % 2) ∷ [])

front : (d : ℕ) (ds : List ℕ) → prefix_len clear (d ∷ ds) ≡ under d (prefix_len clear ds)
front zero ds = omega arith
front (suc d) ds = grind arith

pub ictz-is : (N i : ℕ) → ictz N i ≡ count_trailing_zeros N i
unfolding ibits count_trailing_zeros
ictz-is zero i = refl
ictz-is (suc k) i = ap (prefix_len clear) (reverse-ibits k i) ∙ front (i % 2) (reverse (ibits k (i / 2))) ∙ ap (under (i % 2)) (ictz-is k (i / 2))

one_digit : (d : ℕ) → d < 2 → count_by (λ x. x == 1) (d ∷ []) ≡ d
one_digit zero h = refl
one_digit (suc zero) h = refl
one_digit (suc (suc d)) h = absurd (omega arith)

pub ipopcnt-is : (N i : ℕ) → i < 2 ^ N → ipopcnt N i ≡ ones i
unfolding ibits ones
ipopcnt-is zero i h = let none : 0 ≡ i = omega arith in ap ones none
ipopcnt-is (suc k) i h =
    let one_more : suc k ≡ k + 1 = omega arith in
    let half : i / 2 < 2 ^ k = shr_below i k 1 (subst (λ x. i < 2 ^ x) one_more h) in
    ap (count_by (λ x. x == 1)) (ibits-last k i) ∙ sum_by-append (λ x. cond (x == 1) 1 0) (ibits k (i / 2)) ((i % 2) ∷ [])
    ∙ omega (arith, one_digit (i % 2) (mod-lt i (pow_pos 1)), ipopcnt-is k (i / 2) half, ones_step i)
