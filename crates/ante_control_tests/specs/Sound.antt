-- Transactions on numbers are sound.
use Rattle.std.proofs.Common.{◌≡◌, ℕ, ◌+◌, ◌==◌, ◌≤◌, Bool, true, false, List, [], ◌∷◌, length, None, Some, if◌then◌else◌, refl, arith}
use Rattle.std.proofs.lemmas.Bool.Decides.{nat_tests}
use Rattle.ante_pack.specs.Forms.{list_of, string, varuint, varuint_bytes}
use Rattle.ante_types.specs.declared.chain.BlockInfo.{BlockInfo}
use Rattle.ante_types.specs.declared.failure.Failure.{Failure}
use Rattle.ante_types.specs.declared.failure.Failure.TheVariants.{Assert, TooBig}
use Rattle.ante_types.specs.Limits.{most_transaction_bytes}
use Rattle.ante_machine.specs.Steps.{IsSoundTrx}
use Rattle.ante_control_tests.specs.Numbers.{Numbers, done, failure_of, is_big, asked}

no_signatures : length ((list_of string).spell []) ≡ 1
unfolding varuint varuint_bytes
no_signatures = refl

not_big : (packed : List ℕ) (signatures : List (List ℕ)) → is_big packed signatures ≡ false → length packed + length ((list_of string).spell signatures) ≤ most_transaction_bytes
not_big packed [] e =
    let short : length packed ≤ 1000 = grind (arith, nat_tests) in
    omega (arith, short, no_signatures)
not_big packed (s ∷ signatures) e = cc

fails : (w : Numbers) (info : BlockInfo) (packed : List ℕ) (signatures : List (List ℕ)) (f : Failure) → IsSoundTrx w packed signatures (done w info packed (Some f))
fails w info packed signatures f = record { steps = omega arith; failed = refl; small = λ none. cc }

by_number : (w : Numbers) (info : BlockInfo) (packed : List ℕ) (signatures : List (List ℕ)) → is_big packed signatures ≡ false → (zero : Bool) →
    IsSoundTrx w packed signatures (done w info packed (if zero then Some (Assert []) else None))
by_number w info packed signatures e true = fails w info packed signatures (Assert [])
by_number w info packed signatures e false = record { steps = omega arith; failed = tt; small = λ none. not_big packed signatures e }

by_size : (w : Numbers) (info : BlockInfo) (packed : List ℕ) (signatures : List (List ℕ)) (big : Bool) → is_big packed signatures ≡ big →
    IsSoundTrx w packed signatures (done w info packed (failure_of big (asked packed)))
by_size w info packed signatures true e = fails w info packed signatures TooBig
by_size w info packed signatures false e = by_number w info packed signatures e (asked packed == 0)

pub sound_numbers : (w : Numbers) (info : BlockInfo) (packed : List ℕ) (signatures : List (List ℕ)) →
    IsSoundTrx w packed signatures (done w info packed (failure_of (is_big packed signatures) (asked packed)))
sound_numbers w info packed signatures = by_size w info packed signatures (is_big packed signatures) refl
