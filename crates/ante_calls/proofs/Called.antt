-- Worked examples of calls with their ranges, payments and refusals, with expected values from outside.
use Rattle.std.proofs.Common.{◌≡◌, refl, ℕ, List, [], ◌∷◌}
use Rattle.std.specs.Prelude.{◌-◌, ◌^◌, negsuc, replicate, codes, take}
use Rattle.ante_types.specs.declared.context.Mode.TheVariants as mode
use Rattle.ante_types.specs.declared.failure.Failure.{Failure}
use Rattle.ante_types.specs.declared.failure.Failure.TheVariants as failure
use Rattle.ante_wmem.specs.Linear.{LinearMemory}
use Rattle.ante_wmem.specs.HostCalls.{Reply, value, nothing, exit, refused, step_limit}
use Rattle.ante_calls.specs.Calls.{write_refused, trapped}
use Rattle.ante_calls.specs.Authorization.{is_privileged_call}
use Rattle.ante_calls.specs.Control.{eosio_assert}
use Rattle.ante_calls.specs.Hashes.{sha256_call}
use Rattle.ante_calls.specs.MemoryCalls.{memcpy, memmove, memset, memcmp}
use Rattle.ante_calls.specs.WideIntegers.{multi3, divti3, modti3, umodti3, shlti3, ashrti3, lshrti3}
use Rattle.ante_calls.specs.PrimaryCalls.{db_store_i64, db_get_i64, db_find_i64}
use Rattle.ante_calls.specs.Views.{SysView}
use Rattle.ante_calls.proofs.Iterated.{named, empty, one_row, met, view, run_as}

-- a memory of 64 bytes: 1 to 8, and then zeros
abbrev pub memory : LinearMemory
memory = record { bytes = 1 ∷ 2 ∷ 3 ∷ 4 ∷ 5 ∷ 6 ∷ 7 ∷ 8 ∷ replicate 56 0; most = 1 }

abbrev pub as_first : SysView
as_first = record { world = empty; run = run_as (named 1) mode.Writing }

-- what a reply shows: the bytes of the memory from 0 on, so many
abbrev pub shown : {W : Type 0} → ℕ → Reply W Failure → List ℕ
shown n (value k v m) = k ∷ take n m.bytes
shown n (nothing v m) = take n m.bytes
shown n (exit v m) = []
shown n (refused f) = []
shown n step_limit = []

-- ---- ranges and overlaps

range_past_end : sha256_call as_first (0 ∷ 8 ∷ 33 ∷ []) memory 5 ≡ record { reply = refused failure.BadPointer; left = 5 }
range_past_end = refl

overlapping : memcpy as_first (4 ∷ 0 ∷ 8 ∷ []) memory 5 ≡ record { reply = refused failure.Overlap; left = 5 }
overlapping = refl

copied : shown 16 (memcpy as_first (8 ∷ 0 ∷ 8 ∷ []) memory 5).reply ≡ 8 ∷ 1 ∷ 2 ∷ 3 ∷ 4 ∷ 5 ∷ 6 ∷ 7 ∷ 8 ∷ 1 ∷ 2 ∷ 3 ∷ 4 ∷ 5 ∷ 6 ∷ 7 ∷ 8 ∷ []
copied = refl

moved : shown 12 (memmove as_first (4 ∷ 0 ∷ 8 ∷ []) memory 5).reply ≡ 4 ∷ 1 ∷ 2 ∷ 3 ∷ 4 ∷ 1 ∷ 2 ∷ 3 ∷ 4 ∷ 5 ∷ 6 ∷ 7 ∷ 8 ∷ []
moved = refl

filled : shown 4 (memset as_first (0 ∷ 259 ∷ 64 ∷ []) memory 5).reply ≡ 0 ∷ 3 ∷ 3 ∷ 3 ∷ 3 ∷ []
filled = refl

filled_steps : (memset as_first (0 ∷ 259 ∷ 64 ∷ []) memory 5).left ≡ 4
filled_steps = refl

no_steps : memset as_first (0 ∷ 259 ∷ 64 ∷ []) memory 0 ≡ record { reply = step_limit; left = 0 }
no_steps = refl

compared : shown 0 (memcmp as_first (0 ∷ 1 ∷ 4 ∷ []) memory 5).reply ≡ 4294967295 ∷ []
compared = refl

no_zero_byte : eosio_assert as_first (0 ∷ 64 ∷ []) memory 5 ≡ record { reply = refused failure.BadPointer; left = 5 }
no_zero_byte = refl

asserted : eosio_assert as_first (0 ∷ 0 ∷ []) memory 5 ≡ record { reply = refused (failure.Assert (1 ∷ 2 ∷ 3 ∷ 4 ∷ 5 ∷ 6 ∷ 7 ∷ 8 ∷ [])); left = 5 }
asserted = refl

-- ---- what only a privileged contract may do

not_privileged : is_privileged_call as_first (1 ∷ []) memory 5 ≡ record { reply = refused failure.NotPrivileged; left = 5 }
not_privileged = refl

-- ---- wide integers: operands as two words

abbrev pub word : ℕ
word = 2 ^ 64 - 1

-- the least number by -1 is itself, with remainder 0
least_by_minus_one : shown 16 (divti3 as_first (0 ∷ 0 ∷ 2 ^ 63 ∷ word ∷ word ∷ []) memory 5).reply ≡ 0 ∷ 0 ∷ 0 ∷ 0 ∷ 0 ∷ 0 ∷ 0 ∷ 0 ∷ 0 ∷ 0 ∷ 0 ∷ 0 ∷ 0 ∷ 0 ∷ 0 ∷ 128 ∷ []
least_by_minus_one = refl

no_remainder : shown 16 (modti3 as_first (0 ∷ 0 ∷ 2 ^ 63 ∷ word ∷ word ∷ []) memory 5).reply ≡ replicate 16 0
no_remainder = refl

-- -7 by 2 is -3, with remainder -1
rounds_to_zero : shown 2 (divti3 as_first (0 ∷ (word - 6) ∷ word ∷ 2 ∷ 0 ∷ []) memory 5).reply ≡ 253 ∷ 255 ∷ []
rounds_to_zero = refl

remainder_of_dividend : shown 2 (modti3 as_first (0 ∷ (word - 6) ∷ word ∷ 2 ∷ 0 ∷ []) memory 5).reply ≡ 255 ∷ 255 ∷ []
remainder_of_dividend = refl

by_zero : umodti3 as_first (0 ∷ 1 ∷ 0 ∷ 0 ∷ 0 ∷ []) memory 5 ≡ record { reply = refused (trapped (codes "DivZero")); left = 5 }
by_zero = refl

-- -1 times -1
product : shown 16 (multi3 as_first (0 ∷ word ∷ word ∷ word ∷ word ∷ []) memory 5).reply ≡ 1 ∷ replicate 15 0
product = refl

shifted_out : shown 16 (shlti3 as_first (0 ∷ word ∷ word ∷ 128 ∷ []) memory 5).reply ≡ replicate 16 0
shifted_out = refl

sign_stays : shown 16 (ashrti3 as_first (0 ∷ 0 ∷ 2 ^ 63 ∷ 4294967295 ∷ []) memory 5).reply ≡ replicate 16 255
sign_stays = refl

sign_goes : shown 16 (lshrti3 as_first (0 ∷ 0 ∷ 2 ^ 63 ∷ 127 ∷ []) memory 5).reply ≡ 1 ∷ replicate 15 0
sign_goes = refl

-- ---- rows: payment comes before the refusal in reading mode, and a bad iterator costs nothing

reading_store : db_store_i64 (run_as (named 1) mode.Reading) (view one_row) (7 ∷ 8 ∷ 0 ∷ 5 ∷ 0 ∷ 64 ∷ []) memory 5 ≡ record { reply = refused (write_refused (codes "db_store_i64")); left = 4 }
reading_store = refl

bad_iterator : db_get_i64 met (4294967295 ∷ 0 ∷ 64 ∷ []) memory 5 ≡ record { reply = refused (failure.BadIterator (negsuc 0)); left = 5 }
bad_iterator = refl

found : shown 0 (db_find_i64 met (1 ∷ 7 ∷ 8 ∷ 6 ∷ []) memory 5).reply ≡ 4294967294 ∷ []
found = refl
