-- One draw more, at the end of what was drawn.
use Rattle.std.proofs.Common.{◌≡◌, refl, sym, ap, ◌∙◌, ℕ, zero, suc, ◌+◌, ◌*◌, List, [], ◌∷◌, ◌++◌, arith}
use Rattle.ante_gen.specs.Workload.{next_state, key_of, amount_of, after_draws, pairs_from, keys_from}

pub after_more : (n x : ℕ) → after_draws (suc n) x ≡ next_state (after_draws n x)
unfolding after_draws
after_more zero x = refl
after_more (suc n) x = after_more n (next_state x)

twice : (n : ℕ) → 2 * suc n ≡ suc (suc (2 * n))
twice n = omega arith

pub after_twice : (n x : ℕ) → after_draws (2 * suc n) x ≡ after_draws (2 * n) (next_state (next_state x))
unfolding after_draws
after_twice n x = ap (λ k. after_draws k x) (twice n)

pub after_two : (n x : ℕ) → after_draws (2 * suc n) x ≡ next_state (next_state (after_draws (2 * n) x))
after_two n x = ap (λ k. after_draws k x) (twice n) ∙ after_more (suc (2 * n)) x ∙ ap next_state (after_more (2 * n) x)

abbrev pub pair_at : ℕ → ℕ × ℕ
pair_at x = (key_of (next_state x), amount_of (next_state (next_state x)))

pub pairs_more : (n x : ℕ) → pairs_from (suc n) x ≡ pairs_from n x ++ pair_at (after_draws (2 * n) x) ∷ []
unfolding after_draws pairs_from
pairs_more zero x = refl
pairs_more (suc n) x = let next = next_state (next_state x) in
    ap (λ rest. pair_at x ∷ rest) (pairs_more n next ∙ ap (λ y. pairs_from n next ++ pair_at y ∷ []) (sym (after_twice n x)))

pub keys_more : (n x : ℕ) → keys_from (suc n) x ≡ keys_from n x ++ key_of (next_state (after_draws n x)) ∷ []
unfolding after_draws keys_from
keys_more zero x = refl
keys_more (suc n) x = ap (λ rest. key_of (next_state x) ∷ rest) (keys_more n (next_state x))

one_more : (n : ℕ) → n + 1 ≡ suc n
one_more n = omega arith

pub pair_drawn : (n x : ℕ) (pairs : List (ℕ × ℕ)) (state key amount : ℕ) → pairs ≡ pairs_from n x → state ≡ after_draws (2 * n) x →
    key ≡ next_state state → amount ≡ next_state key →
    (pairs ++ (key_of key, amount_of amount) ∷ [] ≡ pairs_from (n + 1) x) × (amount ≡ after_draws (2 * (n + 1)) x)
pair_drawn n x pairs state key amount are at first second = (
  ap (λ p. p ++ (key_of key, amount_of amount) ∷ []) are
      ∙ ap (λ k. pairs_from n x ++ (key_of k, amount_of amount) ∷ []) (first ∙ ap next_state at)
      ∙ ap (λ a. pairs_from n x ++ (key_of (next_state (after_draws (2 * n) x)), amount_of a) ∷ []) (second ∙ ap next_state (first ∙ ap next_state at))
      ∙ sym (pairs_more n x) ∙ ap (λ k. pairs_from k x) (sym (one_more n)),
  second ∙ ap next_state (first ∙ ap next_state at) ∙ sym (after_two n x) ∙ ap (λ k. after_draws (2 * k) x) (sym (one_more n)),
)
