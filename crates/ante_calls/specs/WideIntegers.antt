-- Integers of 128 bits, which are passed as two words of 64 bits, the lower first, and answered in 16 bytes at an address.
use Rattle.std.specs.Prelude.{ℕ, ◌+◌, ◌*◌, ◌/◌, ◌%◌, ◌^◌, ◌==◌, ℤ, min, nat_le, int_div, int_rem, List, codes, if◌then◌else◌}
use Rattle.std.specs.Int.{w128, cast_signed, cast_unsigned, to_le_bytes, int_shr}
use Rattle.ante_types.specs.declared.failure.Failure.{Failure}
use Rattle.ante_wmem.specs.Linear.{LinearMemory, written}
use Rattle.ante_wmem.specs.HostCalls.{Reply, Outcome, nothing, refused}
use Rattle.ante_calls.specs.Calls.{arg, arg32, bytes_from, replies, reading, trapped}
use Rattle.ante_calls.specs.Views.{SysView}

-- the number in the k-th argument and the next
abbrev pub wide_arg : List ℕ → ℕ → ℕ
wide_arg args k = arg args k + 2 ^ 64 * arg args (k + 1)

abbrev pub signed : ℕ → ℤ
signed n = cast_signed w128 n

abbrev pub unsigned : ℤ → ℕ
unsigned z = cast_unsigned w128 z

-- the first argument is where the 16 bytes go
abbrev pub writes_wide : SysView → List ℕ → LinearMemory → ℕ → Reply SysView Failure
writes_wide v args m n = nothing v (written m (arg32 args 0) (to_le_bytes w128 n))

-- ---- products and quotients

-- __multi3(to, a, b): modulo 2^128
abbrev pub multi3 : SysView → List ℕ → LinearMemory → (left : ℕ) → Outcome SysView Failure
multi3 v args m left = reading (bytes_from 0 16 args m) left (λ old. replies (writes_wide v args m (wide_arg args 1 * wide_arg args 3 % 2 ^ 128)) left)

-- a quotient or a remainder of the two numbers; there is none by 0
abbrev pub dividing : (ℕ → ℕ → ℕ) → SysView → List ℕ → LinearMemory → (left : ℕ) → Outcome SysView Failure
dividing divide v args m left = reading (bytes_from 0 16 args m) left (λ old.
    replies (if wide_arg args 3 == 0 then refused (trapped (codes "DivZero")) else writes_wide v args m (divide (wide_arg args 1) (wide_arg args 3))) left)

-- __divti3, __udivti3, __modti3, __umodti3(to, a, b): the signed ones round to zero; the least number by -1 is itself, with remainder 0
abbrev pub divti3 : SysView → List ℕ → LinearMemory → (left : ℕ) → Outcome SysView Failure
divti3 v args m left = dividing (λ a b. unsigned (int_div (signed a) (signed b))) v args m left

abbrev pub udivti3 : SysView → List ℕ → LinearMemory → (left : ℕ) → Outcome SysView Failure
udivti3 v args m left = dividing (λ a b. a / b) v args m left

abbrev pub modti3 : SysView → List ℕ → LinearMemory → (left : ℕ) → Outcome SysView Failure
modti3 v args m left = dividing (λ a b. unsigned (int_rem (signed a) (signed b))) v args m left

abbrev pub umodti3 : SysView → List ℕ → LinearMemory → (left : ℕ) → Outcome SysView Failure
umodti3 v args m left = dividing (λ a b. a % b) v args m left

-- ---- shifts, by a count without sign

abbrev pub shifting : (ℕ → ℕ → ℕ) → SysView → List ℕ → LinearMemory → (left : ℕ) → Outcome SysView Failure
shifting shift v args m left = reading (bytes_from 0 16 args m) left (λ old. replies (writes_wide v args m (shift (wide_arg args 1) (arg32 args 3))) left)

-- a count of 128 or more shifts all bits out
abbrev pub up : ℕ → ℕ → ℕ
up a count = if nat_le 128 count then 0 else (a * 2 ^ count % 2 ^ 128)

abbrev pub down : ℕ → ℕ → ℕ
down a count = if nat_le 128 count then 0 else (a / 2 ^ count)

-- and leaves copies of the sign
abbrev pub down_signed : ℕ → ℕ → ℕ
down_signed a count = unsigned (int_shr (signed a) (min count 127))

-- __ashlti3 and __lshlti3(to, a, count), __ashrti3, __lshrti3
abbrev pub shlti3 : SysView → List ℕ → LinearMemory → (left : ℕ) → Outcome SysView Failure
shlti3 v args m left = shifting up v args m left

abbrev pub ashrti3 : SysView → List ℕ → LinearMemory → (left : ℕ) → Outcome SysView Failure
ashrti3 v args m left = shifting down_signed v args m left

abbrev pub lshrti3 : SysView → List ℕ → LinearMemory → (left : ℕ) → Outcome SysView Failure
lshrti3 v args m left = shifting down v args m left
