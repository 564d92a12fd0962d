-- The signed reading against std's casts, and the instructions that read their operands signed.
use Rattle.std.proofs.Common.{◌≡◌, ℕ, suc, ◌+◌, ◌-◌, ◌/◌, ◌%◌, ◌^◌, ◌<◌, ◌≤◌, Bool, true, false, cond, ltb, ◌++◌, take, refl, sym, ap, ap₂, ◌∙◌, subst, ⊎_elim, arith, ℤ, pos, negsuc, ◌-ℤ◌, ◌*ℤ◌}
use Rattle.std.proofs.lemmas.Bool.{cases_lt, ltb-true, lt-ltb}
use Rattle.std.proofs.lemmas.Int.{ints, to_z-of_z, quot-rem}
use Rattle.std.proofs.lemmas.Nat.{le-div, pow_pos, shr_below}
use Rattle.std.proofs.Math.IntN.{*ℤ_comm}
use Rattle.std.proofs.Math.Nat.{div-eq_of_lt}
use Rattle.std.specs.Int.{Width, bit_at, cast_unsigned, cast_signed, int_shr}
use Rattle.std.specs.Prelude.{replicate, int_div, int_rem, FitsSigned}
use mir.Val.{sel}
use lib.Signed.{mag_shr, mag_rem}
use Rattle.ante_wnum.specs.Numerics.{signed, unsigned, ibits, integer}
use Rattle.ante_wnum.proofs.Shifts.{shr-is, shr-ones, complement}

-- ---- the reading, as the casts spell it

abbrev pub cast : ℕ → ℕ → ℤ
cast N i = sel (ltb i (2 ^ (N - 1))) (pos i) (negsuc (2 ^ N - suc i))

pub cast-is : (N i : ℕ) → i < 2 ^ N → cast N i ≡ signed N i
cast-is N i h = go (ltb i (2 ^ (N - 1)))
  where
    go : (b : Bool) → sel b (pos i) (negsuc (2 ^ N - suc i)) ≡ cond b (pos i) (pos i -ℤ pos (2 ^ N))
    go true = refl
    go false = omega (arith, ints)

-- ---- shifted to the right with copies of the sign

bit_at_below : (k i : ℕ) → i < 2 ^ k → bit_at i k ≡ 0
bit_at_below k i h = ap (λ q. q % 2) (div-eq_of_lt h)

bit_at_from : (k i : ℕ) → 2 ^ k ≤ i → i < 2 ^ (k + 1) → bit_at i k ≡ 1
bit_at_from k i l h =
    let order : k + 1 ≡ 1 + k = omega arith in
    let some : 1 ≤ i / 2 ^ k = le-div 1 i (2 ^ k) (pow_pos k) (omega arith) in
    let few : i / 2 ^ k < 2 ^ 1 = shr_below i 1 k (subst (λ n. i < 2 ^ n) order h) in
    let one : i / 2 ^ k ≡ 1 = omega (arith, some, few) in
    ap (λ q. q % 2) one

pub shr_s-is : (N k i : ℕ) → 0 < N → k ≤ N → i < 2 ^ N → integer (replicate k (bit_at i (N - 1)) ++ take (N - k) (ibits N i)) ≡ unsigned N (int_shr (cast N i) k)
shr_s-is N k i some le h = ⊎_elim low high (cases_lt i (2 ^ (N - 1)))
  where
    low : i < 2 ^ (N - 1) → integer (replicate k (bit_at i (N - 1)) ++ take (N - k) (ibits N i)) ≡ unsigned N (int_shr (cast N i) k)
    low l =
        ap (λ d. integer (replicate k d ++ take (N - k) (ibits N i))) (bit_at_below (N - 1) i l) ∙ shr-is N k i le h
        ∙ ap (λ b. unsigned N (int_shr (sel b (pos i) (negsuc (2 ^ N - suc i))) k)) (sym (lt-ltb i (2 ^ (N - 1)) l))

    high : 2 ^ (N - 1) ≤ i → integer (replicate k (bit_at i (N - 1)) ++ take (N - k) (ibits N i)) ≡ unsigned N (int_shr (cast N i) k)
    high g =
        let next : N ≡ (N - 1) + 1 = omega arith in
        let no : ltb i (2 ^ (N - 1)) ≡ false = grind (arith, ltb-true) in
        let value : integer (replicate k 1 ++ take (N - k) (ibits N i)) ≡ 2 ^ N - suc ((2 ^ N - suc i) / 2 ^ k) =
        omega (arith, shr-ones N k i le h, complement N k i le h) in
        ap (λ d. integer (replicate k d ++ take (N - k) (ibits N i))) (bit_at_from (N - 1) i g (subst (λ n. i < 2 ^ n) next h)) ∙ value
        ∙ ap (λ b. unsigned N (int_shr (sel b (pos i) (negsuc (2 ^ N - suc i))) k)) (sym no)

-- ---- the remainder

pub rem-is : (x y : ℤ) → x -ℤ y *ℤ int_div x y ≡ int_rem x y
rem-is x y = omega (arith, ints, quot-rem x y, *ℤ_comm y (int_div x y))

-- ---- what the casts around these instructions leave

fits_shr : (w : Width) (z : ℤ) (k : ℕ) → FitsSigned w z → FitsSigned w (int_shr z k)
fits_shr w z k f = record { sfits = omega (arith, mag_shr z (2 ^ k), f.sfits) }

pub shifted : (w : Width) (z : ℤ) (k x : ℕ) → FitsSigned w z →
    x ≡ cast_unsigned w (cast_signed w (cast_unsigned w (int_shr (cast_signed w (cast_unsigned w z)) k))) → x ≡ cast_unsigned w (int_shr z k)
shifted w z k x f e =
    e ∙ ap (λ y. cast_unsigned w (cast_signed w (cast_unsigned w (int_shr y k)))) (to_z-of_z w z f)
    ∙ ap (cast_unsigned w) (to_z-of_z w (int_shr z k) (fits_shr w z k f))

fits_rem : (w : Width) (x y : ℤ) → FitsSigned w x → FitsSigned w (int_rem x y)
fits_rem w x y f = record { sfits = omega (arith, mag_rem x y, f.sfits) }

pub remainder : (w : Width) (x y r : ℤ) (n : ℕ) → FitsSigned w x → FitsSigned w y →
    n ≡ cast_unsigned w (cast_signed w (cast_unsigned w r)) →
    r ≡ int_rem (cast_signed w (cast_unsigned w x)) (cast_signed w (cast_unsigned w y)) →
    n ≡ cast_unsigned w (x -ℤ y *ℤ int_div x y)
remainder w x y r n f g e d =
    let is : r ≡ int_rem x y = d ∙ ap₂ int_rem (to_z-of_z w x f) (to_z-of_z w y g) in
    e ∙ ap (λ z. cast_unsigned w (cast_signed w (cast_unsigned w z))) is
    ∙ ap (cast_unsigned w) (to_z-of_z w (int_rem x y) (fits_rem w x y f) ∙ sym (rem-is x y))
