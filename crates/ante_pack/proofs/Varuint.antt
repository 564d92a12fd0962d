-- One step of reading a varuint.
use Rattle.std.proofs.Common.{◌≡◌, ◌≢◌, ℕ, zero, suc, ◌+◌, ◌-◌, ◌*◌, ◌<◌, ◌≤◌, false, cond, ltb, eqb, List, [], ◌∷◌, Result, Ok, Err, refl, ◌∙◌, arith}
use Rattle.std.proofs.lemmas.Bool.{lt-ltb, le-ltb, ne_eqb}
use Rattle.ante_pack.specs.declared.fault.PackFault.{PackFault}
use Rattle.ante_pack.specs.declared.fault.PackFault.TheVariants.{Short, LongVaruint}
use Rattle.ante_pack.specs.Forms.{◌>>=◌, varuint_within}

pub within-end : (at left : ℕ) → varuint_within at [] left ≡ Err (Short at)
unfolding varuint_within
within-end at left = refl

pub within-last : (at b : ℕ) (bytes : List ℕ) (left : ℕ) → left ≡ 0 → varuint_within at (b ∷ bytes) left ≡ cond (ltb b 16) (Ok (b, bytes)) (Err (LongVaruint at))
unfolding varuint_within
within-last at b bytes left e = rw e refl

pub within-one : (at b : ℕ) (bytes : List ℕ) (left : ℕ) → left ≢ 0 → b < 128 → varuint_within at (b ∷ bytes) left ≡ Ok (b, bytes)
unfolding varuint_within
within-one at b bytes zero ne lt = absurd (ne refl)
within-one at b bytes (suc left) ne lt = rw (lt-ltb b 128 lt) refl

-- what a byte with its top bit set makes of the number after it
abbrev pub above : ℕ → ℕ → (ℕ × List ℕ) → Result (ℕ × List ℕ) PackFault
above at b high = cond (eqb high.0 0) (Err (LongVaruint at)) (Ok (b - 128 + 128 * high.0, high.1))

pub within-more : (at b : ℕ) (bytes : List ℕ) (left : ℕ) → left ≢ 0 → 128 ≤ b → varuint_within at (b ∷ bytes) left ≡ (varuint_within at bytes (left - 1) >>= above at b)
unfolding varuint_within
within-more at b bytes zero ne le = absurd (ne refl)
within-more at b bytes (suc left) ne le =
    let k : suc left - 1 ≡ left = omega arith in
    rw (le-ltb b 128 le, k) refl

pub gives-fault : (at b : ℕ) (bytes : List ℕ) (left : ℕ) (fault : PackFault) → left ≢ 0 → 128 ≤ b → varuint_within at bytes (left - 1) ≡ Err fault → varuint_within at (b ∷ bytes) left ≡ Err fault
gives-fault at b bytes left fault ne le h = within-more at b bytes left ne le ∙ rw h refl

pub gives-zero : (at b : ℕ) (bytes : List ℕ) (left high : ℕ) (rest : List ℕ) → left ≢ 0 → 128 ≤ b → high ≡ 0 → varuint_within at bytes (left - 1) ≡ Ok (high, rest) → varuint_within at (b ∷ bytes) left ≡ Err (LongVaruint at)
gives-zero at b bytes left high rest ne le z h = within-more at b bytes left ne le ∙ rw (h, z) refl

pub gives-more : (at b : ℕ) (bytes : List ℕ) (left high : ℕ) (rest : List ℕ) → left ≢ 0 → 128 ≤ b → high ≢ 0 → varuint_within at bytes (left - 1) ≡ Ok (high, rest) → varuint_within at (b ∷ bytes) left ≡ Ok (b - 128 + 128 * high, rest)
gives-more at b bytes left high rest ne le nz h =
    let test : eqb high 0 ≡ false = ne_eqb high 0 nz in
    within-more at b bytes left ne le ∙ rw (h, test) refl
