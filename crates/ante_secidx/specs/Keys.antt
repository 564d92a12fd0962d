-- The greatest secondary keys, and that keys that tie are one.
use Rattle.std.specs.Prelude.{ℕ, ◌≤◌, ◌≡◌, T, not}
use Rattle.std.proofs.Common.{refl, ap, subst, ◌∙◌}
use Rattle.std.specs.declared.cmp.Ordering.{Ordering}
use Rattle.std.specs.declared.cmp.Ordering.TheVariants.{Less, Equal, Greater}
use Rattle.std.specs.Ordering.{nat_cmp, ordering_then, is_eq}
use Rattle.std.specs.FinMap.{IsAntisymmetric, nat_cmp-IsAntisymmetric}
use Rattle.ante_pack.specs.KeyOrder.{key256_order}
use Rattle.ante_pack.specs.declared.names.Key256.{Key256}

abbrev pub greatest_64 : ℕ
greatest_64 = 18446744073709551615

abbrev pub greatest_128 : ℕ
greatest_128 = 340282366920938463463374607431768211455

-- both words have 128 bits
abbrev pub IsKey256 : Key256 → Type 0
IsKey256 key = (key.first ≤ greatest_128) × (key.second ≤ greatest_128)

-- two parts of which neither differs
then_equal : (a b : Ordering) → ordering_then a b ≡ Equal → (a ≡ Equal) × (b ≡ Equal)
then_equal Less b h = absurd (subst (λ o. T (not (is_eq o))) h tt)
then_equal Equal b h = (refl, h)
then_equal Greater b h = absurd (subst (λ o. T (not (is_eq o))) h tt)

pub key256_exact : IsAntisymmetric key256_order
key256_exact a b h =
    let tied = then_equal (nat_cmp a.first b.first) (nat_cmp a.second b.second) h in
    ap (λ first. record { first = first; second = a.second }) (nat_cmp-IsAntisymmetric a.first b.first tied.0)
    ∙ ap (λ second. record { first = b.first; second = second }) (nat_cmp-IsAntisymmetric a.second b.second tied.1)
