-- A number of a call that isn't on tables is a place in the list of these calls.
use Rattle.std.proofs.Common.{◌≡◌, refl, sym, ap, ◌∙◌, true≢false, ℕ, zero, suc, List, [], ◌∷◌, if◌then◌else◌}
use Rattle.std.specs.Prelude.{map, slice_get, Option, Some, None, option_map, ◌++◌, Bool, true, false}
use Rattle.ante_calls.specs.declared.calls.SysCall.{SysCall}
use Rattle.ante_calls.specs.declared.calls.Intrinsic.{Intrinsic}
use Rattle.ante_calls.specs.declared.calls.Intrinsic.TheVariants.{Sys, Row, Index64, Index128, Index256}
use Rattle.ante_calls.specs.Numbers.{intrinsic_at, sys_calls, row_calls, index_group}
use Rattle.ante_calls.specs.IndexCalls.{key64, key128, key256}
use Rattle.ante_sysapi.specs.Tables.{calls}

abbrev is_other : Intrinsic → Bool
is_other (Sys c) = false
is_other (Row c) = true
is_other (Index64 c) = true
is_other (Index128 c) = true
is_other (Index256 c) = true

abbrev Named : Type 0
Named = List ℕ × Intrinsic

abbrev all_other : List Named → Bool
all_other [] = true
all_other (c ∷ cs) = if is_other c.1 then all_other cs else false

abbrev found : List Named → ℕ → Option Intrinsic
found cs n = option_map (λ c. c.1) (slice_get cs n)

found_other : Option Intrinsic → Bool
found_other None = true
found_other (Some i) = is_other i

both : (a b : Bool) → (if a then b else false) ≡ true → b ≡ true
both true b h = h
both false true h = refl
both false false h = h

none : (cs : List Named) → all_other cs ≡ true → (n : ℕ) (call : SysCall) → found cs n ≡ Some (Sys call) → true ≡ false
unfolding found_other
none [] h n call e = ap found_other e
none (c ∷ cs) h zero call e = sym h ∙ ap (λ b. if b then all_other cs else false) (ap found_other e)
none (c ∷ cs) h (suc n) call e = none cs (both (is_other c.1) (all_other cs) h) n call e

alone : Option Intrinsic → Option SysCall
alone (Some (Sys c)) = Some c
alone (Some (Row c)) = None
alone (Some (Index64 c)) = None
alone (Some (Index128 c)) = None
alone (Some (Index256 c)) = None
alone None = None

in_front : (xs : List (List ℕ × SysCall)) (ys : List Named) → all_other ys ≡ true → (n : ℕ) (call : SysCall) → found (map (λ c. (c.0, Sys c.1)) xs ++ ys) n ≡ Some (Sys call) → slice_get (map (λ c. c.1) xs) n ≡ Some call
unfolding alone
in_front [] ys h n call e = absurd (true≢false (none ys h n call e))
in_front (x ∷ xs) ys h zero call e = ap alone e
in_front (x ∷ xs) ys h (suc n) call e = in_front xs ys h n call e

abbrev others : List Named
others = map (λ c. (c.0, Row c.1)) row_calls ++ (index_group key64.prefix Index64 ++ (index_group key128.prefix Index128 ++ index_group key256.prefix Index256))

pub by_number : (n : ℕ) (call : SysCall) → intrinsic_at n ≡ Some (Sys call) → slice_get calls n ≡ Some call
by_number n call e = in_front sys_calls others refl n call e

pub same_call : (x y : SysCall) → Some x ≡ Some y → x ≡ y
same_call x y e = cc
