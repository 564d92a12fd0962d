-- A sign that is extended, by comparisons.
use Rattle.std.proofs.Common.{◌≡◌, ℕ, suc, ◌+◌, ◌-◌, ◌^◌, ◌<◌, ◌≤◌, Bool, true, false, sym, ap, ◌∙◌, ⊎_elim, arith, pos, negsuc, ◌-ℤ◌}
use Rattle.std.specs.Prelude.{nat_lt, if◌then◌else◌}
use Rattle.std.proofs.lemmas.Bool.{cases_lt, ltb-true, lt-ltb}
use Rattle.std.proofs.lemmas.Int.{ints}
use Rattle.ante_wnum.specs.Numerics.{signed, unsigned}

not_lt : (m n : ℕ) → n ≤ m → nat_lt m n ≡ false
not_lt m n le = grind (arith, ltb-true)

abbrev filled : (value half fill : ℕ) → ℕ
filled value half fill = if nat_lt value half then value else (if nat_lt value (half + half) then value + fill else value - (half + half))

pub extension : (M N value half fill : ℕ) → half ≡ 2 ^ (M - 1) → half + half ≡ 2 ^ M → fill + (half + half) ≡ 2 ^ N → filled value half fill ≡ unsigned N (signed M value)
extension M N value half fill h w f = ⊎_elim low high (cases_lt value half)
  where
    reading : (b : Bool) → nat_lt value (2 ^ (M - 1)) ≡ b → signed M value ≡ (if b then pos value else (pos value -ℤ pos (2 ^ M)))
    reading b e = ap (λ b. if b then pos value else (pos value -ℤ pos (2 ^ M))) e

    low : value < half → filled value half fill ≡ unsigned N (signed M value)
    low lt =
        ap (λ b. if b then value else (if nat_lt value (half + half) then value + fill else value - (half + half))) (lt-ltb value half lt)
        ∙ sym (ap (unsigned N) (reading true (ap (nat_lt value) (sym h) ∙ lt-ltb value half lt)))

    high : half ≤ value → filled value half fill ≡ unsigned N (signed M value)
    high ge =
        ap (λ b. if b then value else (if nat_lt value (half + half) then value + fill else value - (half + half))) (not_lt value half ge)
        ∙ ⊎_elim mid over (cases_lt value (half + half))
        ∙ sym (ap (unsigned N) (reading false (ap (nat_lt value) (sym h) ∙ not_lt value half ge)))
      where
        mid : value < half + half → (if nat_lt value (half + half) then value + fill else value - (half + half)) ≡ unsigned N (pos value -ℤ pos (2 ^ M))
        mid lt =
            let negative : pos value -ℤ pos (2 ^ M) ≡ negsuc (2 ^ M - suc value) = omega (arith, ints, w, lt) in
            let number : value + fill ≡ 2 ^ N - suc (2 ^ M - suc value) = omega (arith, w, f, lt, ge) in
            ap (λ b. if b then value + fill else value - (half + half)) (lt-ltb value (half + half) lt) ∙ number ∙ sym (ap (unsigned N) negative)

        over : half + half ≤ value → (if nat_lt value (half + half) then value + fill else value - (half + half)) ≡ unsigned N (pos value -ℤ pos (2 ^ M))
        over ge' =
            let positive : pos value -ℤ pos (2 ^ M) ≡ pos (value - 2 ^ M) = omega (arith, ints, w, ge') in
            let number : value - (half + half) ≡ value - 2 ^ M = ap (λ k. value - k) w in
            ap (λ b. if b then value + fill else value - (half + half)) (not_lt value (half + half) ge') ∙ number ∙ sym (ap (unsigned N) positive)
