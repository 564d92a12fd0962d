-- How long packed signatures are.
use Rattle.std.proofs.Common.{◌≡◌, ℕ, zero, suc, ◌+◌, ◌%◌, ◌/◌, ◌<◌, ◌≤◌, ◌^◌, nat_lt, Bool, true, false, List, [], ◌∷◌, ◌++◌, length, length-append, None, if◌then◌else◌, arith}
use Rattle.std.specs.List.{flat_map}
use Rattle.ante_pack.specs.Forms.{list_of, string, varuint, varuint_bytes}
use Rattle.ante_types.specs.declared.chain.Transaction.{Transaction}
use Rattle.ante_execution.specs.Transactions.{form_refusal}
use Rattle.ante_checks.specs.Small.{small_form}

pub both_lengths : (number : ℕ) (bytes : List ℕ) → length (varuint.spell number ++ bytes) ≡ length (varuint.spell number) + length bytes
both_lengths number bytes = length-append (varuint.spell number) bytes

some_bytes : (left n : ℕ) → 1 ≤ length (varuint_bytes left n)
unfolding varuint_bytes
some_bytes zero n = omega arith
some_bytes (suc left) n = by (nat_lt n 128)
  where
    by : (b : Bool) → 1 ≤ length (if b then n ∷ [] else (128 + n % 128) ∷ varuint_bytes left (n / 128))
    by true = omega arith
    by false = omega arith

some_string : (s : List ℕ) → 1 ≤ length (string.spell s)
unfolding string varuint
some_string s =
    let some = some_bytes 4 (length s) in
    let both = length-append (varuint_bytes 4 (length s)) s in
    omega (arith, some, both)

counted : (signatures : List (List ℕ)) → length signatures ≤ length (flat_map string.spell signatures)
counted [] = omega arith
counted (s ∷ signatures) =
    let some = some_string s in
    let rest = counted signatures in
    let both = length-append (string.spell s) (flat_map string.spell signatures) in
    omega (arith, some, rest, both)

pub few_signatures : (bytes : ℕ) (signatures : List (List ℕ)) (t : Transaction) → form_refusal (bytes + length ((list_of string).spell signatures)) t ≡ None →
    length signatures < 2 ^ 32
few_signatures bytes signatures t none =
    let small = small_form (bytes + length ((list_of string).spell signatures)) t none in
    let count = counted signatures in
    let both = length-append (varuint.spell (length signatures)) (flat_map string.spell signatures) in
    omega (arith, small, count, both)
