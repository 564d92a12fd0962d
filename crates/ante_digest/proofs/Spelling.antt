-- A varuint fed byte by byte.
use Rattle.std.proofs.Common.{◌≡◌, ℕ, zero, suc, ◌+◌, ◌/◌, ◌%◌, ◌^◌, ◌<◌, ◌≤◌, List, [], ◌∷◌, ◌++◌, refl, sym, ap, subst, ◌∙◌, append_assoc, arith}
use Rattle.std.proofs.lemmas.Bool.{le-ltb}
use Rattle.sha2.specs.declared.Sha256.{Sha256}
use Rattle.ante_pack.specs.Forms.{varuint_bytes, varuint}
use Rattle.ante_pack.specs.RepeatedCodecs.{limit}
use Rattle.ante_pack.proofs.VaruintWriting.{bytes_last, spelled}
use Rattle.ante_digest.specs.Feeds.{Feeds}
use Rattle.ante_digest.proofs.Fed.{nothing, onto}

-- the front of the spelling was fed, and the number that is left spells the rest
pub record IsSpelling (old new : Sha256) (left value : ℕ) : Type 0 where
  pub front : List ℕ
  pub places : ℕ
  pub fed : Feeds old new front
  pub whole : front ++ varuint_bytes places left ≡ varuint.spell value
  pub below : left < limit places

pub starts : (h : Sha256) (value : ℕ) → value < 2 ^ 32 → IsSpelling h h value value
starts h value lt = record { front = []; places = 4; fed = nothing h; whole = spelled value; below = omega (arith, lt) }

bytes_more : (places n : ℕ) → 128 ≤ n → varuint_bytes (suc places) n ≡ (128 + n % 128) ∷ varuint_bytes places (n / 128)
unfolding varuint_bytes
bytes_more places n le = rw (le-ltb n 128 le) refl

pub goes_on : (h h1 h2 : Sha256) (left value : ℕ) → 128 ≤ left → IsSpelling h h1 left value → Feeds h1 h2 ((128 + left % 128) ∷ []) → IsSpelling h h2 (left / 128) value
goes_on h h1 h2 left value le s fed = by_places s.places s.whole s.below
  where
    by_places : (places : ℕ) → s.front ++ varuint_bytes places left ≡ varuint.spell value → left < limit places → IsSpelling h h2 (left / 128) value
    by_places zero whole lt = absurd (omega (arith, le, lt))
    by_places (suc places) whole lt = record {
      front = s.front ++ (128 + left % 128) ∷ [];
      places = places;
      fed = onto s.fed fed;
      whole = append_assoc s.front ((128 + left % 128) ∷ []) (varuint_bytes places (left / 128)) ∙ ap (λ (t : List ℕ). s.front ++ t) (sym (bytes_more places left le)) ∙ whole;
      below = omega (arith, lt);
    }

pub ends : (h h1 h2 : Sha256) (left value : ℕ) → left < 128 → IsSpelling h h1 left value → Feeds h1 h2 (left ∷ []) → Feeds h h2 (varuint.spell value)
ends h h1 h2 left value lt s fed = subst (λ (t : List ℕ). Feeds h h2 t) (ap (λ (t : List ℕ). s.front ++ t) (sym (bytes_last s.places left lt)) ∙ s.whole) (onto s.fed fed)
