-- The first byte that passes a test: as a search gives it, it is the position in the list.
use Rattle.std.proofs.Common.{◌≡◌, refl, sym, ap, ◌∙◌, arith, rules, ℕ, zero, suc, ◌+◌, ◌<◌, ◌≤◌, Bool, true, false, cond, nat_lt, List, [], ◌∷◌, length, Option, Some, None, slice_index}
use Rattle.std.specs.Prelude.{not, position}
use Rattle.std.specs.List.{position_or_len}
use Rattle.memchr.specs.Find.{IsFirstByte}

fails : (b : Bool) → ¬ (b ≡ true) → not b ≡ true
fails true h = absurd (h refl)
fails false h = refl

module _ (p : ℕ → Bool) where
  count : (xs : List ℕ) (n : ℕ) → n ≤ length xs → ((k : ℕ) → k < n → ¬ (p (slice_index xs k) ≡ true)) → (n < length xs → p (slice_index xs n) ≡ true) → position_or_len p xs ≡ n
  count [] n le before there = omega arith
  count (x ∷ xs) zero le before there = ap (λ b. cond (not b) (1 + position_or_len p xs) 0) (there (omega arith))
  count (x ∷ xs) (suc n) le before there =
      let rest = count xs n (omega arith) (λ k l. before (suc k) (omega arith)) (λ l. there (omega arith)) in
      ap (λ b. cond b (1 + position_or_len p xs) 0) (fails (p x) (before 0 (omega arith))) ∙ omega arith

  pub first_is_position : (xs : List ℕ) (r : Option ℕ) → IsFirstByte p xs r → r ≡ position p xs
  first_is_position xs (Some k) h =
      let l : k < length xs = h.0.high in
      let at : position_or_len p xs ≡ k = count xs k (omega arith) (λ j m. h.0.before j (omega arith) m) (λ m. h.1) in
      let within : nat_lt k (length xs) ≡ true = search (rules, l) in
      sym (ap (λ n. cond (nat_lt n (length xs)) (Some n) None) at ∙ ap (λ b. cond b (Some k) None) within)
  first_is_position xs None h =
      let at : position_or_len p xs ≡ length xs = count xs (length xs) (omega arith) (λ j m. h j (omega arith) m) (λ m. absurd (omega arith)) in
      let within : nat_lt (length xs) (length xs) ≡ false = search rules in
      sym (ap (λ n. cond (nat_lt n (length xs)) (Some n) None) at ∙ ap (λ b. cond b (Some (length xs)) None) within)
