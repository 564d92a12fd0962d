-- The first numbers are those of the calls that aren't on tables.
use Rattle.std.proofs.Common.{◌≡◌, refl, arith, IsTrue, ℕ, zero, suc, ◌<◌, nat_lt, List, [], ◌∷◌, ◌++◌, length}
use Rattle.std.specs.Prelude.{map, slice_get, Option, Some, option_map}
use Rattle.ante_calls.specs.declared.calls.SysCall.{SysCall}
use Rattle.ante_calls.specs.declared.calls.Intrinsic.{Intrinsic}
use Rattle.ante_calls.specs.declared.calls.Intrinsic.TheVariants.{Sys, Row, Index64, Index128, Index256}
use Rattle.ante_calls.specs.Numbers.{intrinsic_at, sys_calls, row_calls, index_group}
use Rattle.ante_calls.specs.IndexCalls.{key64, key128, key256}

abbrev Named : Type 0
Named = List ℕ × Intrinsic

abbrev found : List Named → ℕ → Option Intrinsic
found cs n = option_map (λ c. c.1) (slice_get cs n)

in_front : (xs : List (List ℕ × SysCall)) (ys : List Named) (n : ℕ) → n < length xs → (call : SysCall) × (found (map (λ c. (c.0, Sys c.1)) xs ++ ys) n ≡ Some (Sys call))
in_front [] ys n h = absurd (omega arith)
in_front (x ∷ xs) ys zero h = (x.1, refl)
in_front (x ∷ xs) ys (suc n) h = in_front xs ys n (omega arith)

abbrev others : List Named
others = map (λ c. (c.0, Row c.1)) row_calls ++ (index_group key64.prefix Index64 ++ (index_group key128.prefix Index128 ++ index_group key256.prefix Index256))

pub is_sys : (n : ℕ) → IsTrue (nat_lt n 48) → (call : SysCall) × (intrinsic_at n ≡ Some (Sys call))
is_sys n h = let below : n < 48 = grind arith in in_front sys_calls others n below
