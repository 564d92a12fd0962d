-- A call's arguments are as many as the function takes, and of its types.
use Rattle.std.proofs.Common.{◌≡◌, ℕ, ◌<◌, ◌≤◌, true, List, [], ◌∷◌, length, take, refl, ap, ◌∙◌, arith}
use Rattle.std.specs.Prelude.{◌&&◌, ◌%◌, ◌^◌}
use Rattle.std.proofs.lemmas.Bool.{lt-ltb}
use Rattle.std.proofs.lemmas.List.{length-take-le, length-reverse}
use Rattle.ante_wtree.specs.declared.instructions.ValueKind.{ValueKind}
use Rattle.ante_wtree.specs.declared.instructions.ValueKind.TheVariants.{I32, I64}
use Rattle.ante_wtree.specs.Types.{masked, all_fit}
use Rattle.ante_wmeaning.specs.PlainInstructions.{popped}
use Rattle.ante_wmeaning.specs.Execution.{arguments}

pub arguments_length : (n : ℕ) (stack : List ℕ) → n ≤ length stack → length (arguments n stack) ≡ n
arguments_length n stack le = length-reverse (take n stack) ∙ length-take-le n stack le

pub mask_fits : (kinds : List ValueKind) (ns : List ℕ) → length ns ≡ length kinds → all_fit kinds (masked kinds ns) ≡ true
mask_fits [] [] e = refl
mask_fits [] (n ∷ ns) e = absurd (omega (arith, e))
mask_fits (k ∷ ks) [] e = absurd (omega (arith, e))
mask_fits (I32 ∷ ks) (n ∷ ns) e = ap (λ b. b && all_fit ks (masked ks ns)) (lt-ltb (n % 2 ^ 32) (2 ^ 32) (omega arith)) ∙ mask_fits ks ns (omega (arith, e))
mask_fits (I64 ∷ ks) (n ∷ ns) e = ap (λ b. b && all_fit ks (masked ks ns)) (lt-ltb (n % 2 ^ 64) (2 ^ 64) (omega arith)) ∙ mask_fits ks ns (omega (arith, e))

pub masked_fit : (kinds : List ValueKind) (stack : List ℕ) → length kinds < length stack → all_fit kinds (masked kinds (arguments (length kinds) (popped stack))) ≡ true
masked_fit kinds stack lt = mask_fits kinds (arguments (length kinds) (popped stack)) (arguments_length (length kinds) (popped stack) (one_less stack lt))
  where
    one_less : (stack : List ℕ) → length kinds < length stack → length kinds ≤ length (popped stack)
    one_less [] lt = absurd (omega (arith, lt))
    one_less (x ∷ xs) lt = omega (arith, lt)
