-- Numbers of 64 bits.
use Rattle.std.proofs.Common.{◌≡◌, ℕ, ◌^◌, ◌≤◌, ◌<◌, Option, Some, None, SomeIff, refl, sym, ap, ◌∙◌, arith}
use Rattle.std.proofs.lemmas.Bool.{le-ltb, lt-ltb}
use Rattle.ante_json.specs.Kinds.{of_64_bits}

-- an addition that was tried
pub tried : (r : Option ℕ) (n : ℕ) → SomeIff r (n < 2 ^ 64) n → r ≡ of_64_bits n
tried None n h = sym (rw (le-ltb n (2 ^ 64) (omega arith)) refl)
tried (Some x) n (l, e) = ap (λ (y : ℕ). Some y) e ∙ sym (rw (lt-ltb n (2 ^ 64) l) refl)

-- one that doesn't fit
pub none_fits : (n : ℕ) → 2 ^ 64 ≤ n → None ≡ of_64_bits n
none_fits n h = sym (rw (le-ltb n (2 ^ 64) h) refl)
