-- A varuint written byte by byte.
use Rattle.std.proofs.Common.{◌≡◌, ℕ, zero, suc, ◌+◌, ◌-◌, ◌/◌, ◌%◌, ◌<◌, ◌≤◌, List, [], ◌∷◌, ◌++◌, length, take, refl, sym, ap, subst, ◌∙◌, append_assoc, arith}
use Rattle.std.proofs.lemmas.Bool.{lt-ltb, le-ltb}
use Rattle.std.proofs.lemmas.List.{take_more_set}
use Rattle.std.proofs.Math.ListN.{set, length-set}
use Rattle.ante_pack.specs.Forms.{varuint_bytes, varuint}
use Rattle.ante_pack.specs.RepeatedCodecs.{limit}

bytes_more : (left n : ℕ) → 128 ≤ n → varuint_bytes (suc left) n ≡ (128 + n % 128) ∷ varuint_bytes left (n / 128)
unfolding varuint_bytes
bytes_more left n le = rw (le-ltb n 128 le) refl

pub bytes_last : (left n : ℕ) → n < 128 → varuint_bytes left n ≡ n ∷ []
unfolding varuint_bytes
bytes_last zero n lt = refl
bytes_last (suc left) n lt = rw (lt-ltb n 128 lt) refl

-- what stands after one more byte with its top bit set
pub record Writes (text : List ℕ) (len left : ℕ) (total : List ℕ) : Type 0 where
  pub front : take len text ++ varuint_bytes (4 - len) left ≡ total
  pub within : len ≤ 4
  pub room : length text ≡ 5
  pub below : left < limit (4 - len)

steps_more : (text : List ℕ) (len left k : ℕ) (total : List ℕ) → 128 ≤ left → 4 - len ≡ suc k → Writes text len left total → Writes (set text len (128 + left % 128)) (len + 1) (left / 128) total
steps_more text len left k total le e w =
    let b = 128 + left % 128 in
    let room : len < length text = omega (arith, w.room) in
    let fewer : 4 - (len + 1) ≡ k = omega arith in
    let grown = take_more_set text len b room in
    let moved : (take len text ++ b ∷ []) ++ varuint_bytes k (left / 128) ≡ take len text ++ varuint_bytes (suc k) left =
    append_assoc (take len text) (b ∷ []) (varuint_bytes k (left / 128)) ∙ ap (λ (t : List ℕ). take len text ++ t) (sym (bytes_more k left le)) in
    let before : take len text ++ varuint_bytes (suc k) left ≡ total = subst (λ (j : ℕ). take len text ++ varuint_bytes j left ≡ total) e w.front in
    let low : left < limit (suc k) = subst (λ (j : ℕ). left < limit j) e w.below in
    record {
      front = rw (grown, fewer) (moved ∙ before);
      within = omega arith;
      room = length-set text len b ∙ w.room;
      below = rw fewer (omega (arith, low));
    }

pub writes_more : (text : List ℕ) (len left : ℕ) (total : List ℕ) → 128 ≤ left → Writes text len left total → Writes (set text len (128 + left % 128)) (len + 1) (left / 128) total
writes_more text len left total le w = by_left (4 - len) refl
  where
    by_left : (m : ℕ) → 4 - len ≡ m → Writes (set text len (128 + left % 128)) (len + 1) (left / 128) total
    by_left zero e =
        let low : left < limit 0 = subst (λ (j : ℕ). left < limit j) e w.below in
        absurd (omega (arith, low, le))
    by_left (suc k) e = steps_more text len left k total le e w

pub writes_last : (text : List ℕ) (len left : ℕ) (total : List ℕ) → left < 128 → Writes text len left total → take (len + 1) (set text len left) ≡ total
writes_last text len left total lt w =
    let room : len < length text = omega (arith, w.within, w.room) in
    take_more_set text len left room ∙ ap (λ (t : List ℕ). take len text ++ t) (sym (bytes_last (4 - len) left lt)) ∙ w.front

pub spelled : (n : ℕ) → varuint_bytes 4 n ≡ varuint.spell n
unfolding varuint
spelled n = refl
