-- Calls on the memory alone. Each range must lie in the memory, and n bytes are paid for.
use Rattle.std.specs.Prelude.{ℕ, ◌%◌, nat_lt, List, length, replicate, if◌then◌else◌}
use Rattle.std.specs.declared.cmp.Ordering.{Ordering}
use Rattle.std.specs.declared.cmp.Ordering.TheVariants.{Less, Equal, Greater}
use Rattle.std.specs.Ordering.{nat_cmp}
use Rattle.std.specs.Cmp.Lexicographic.{slice_cmp}
use Rattle.std.specs.Int.{abs_diff}
use Rattle.ante_types.specs.declared.failure.Failure.{Failure}
use Rattle.ante_types.specs.declared.failure.Failure.TheVariants as failure
use Rattle.ante_wmem.specs.Linear.{LinearMemory, written}
use Rattle.ante_wmem.specs.HostCalls.{Outcome, value, refused}
use Rattle.ante_calls.specs.Calls.{arg32, bytes_from, reading, paying}
use Rattle.ante_calls.specs.Views.{SysView}

-- memcpy(to, from, n): the two ranges may not overlap. The answer is `to`.
abbrev pub memcpy : SysView → List ℕ → LinearMemory → (left : ℕ) → Outcome SysView Failure
memcpy v args m left = reading (bytes_from 0 (arg32 args 2) args m) left (λ old. reading (bytes_from 1 (arg32 args 2) args m) left (λ bytes.
    paying (length bytes) left (if nat_lt (abs_diff (arg32 args 0) (arg32 args 1)) (arg32 args 2) then refused failure.Overlap
    else value (arg32 args 0) v (written m (arg32 args 0) bytes))))

-- memmove(to, from, n): as if through a second buffer
abbrev pub memmove : SysView → List ℕ → LinearMemory → (left : ℕ) → Outcome SysView Failure
memmove v args m left = reading (bytes_from 0 (arg32 args 2) args m) left (λ old. reading (bytes_from 1 (arg32 args 2) args m) left (λ bytes.
    paying (length bytes) left (value (arg32 args 0) v (written m (arg32 args 0) bytes))))

-- memset(to, byte, n)
abbrev pub memset : SysView → List ℕ → LinearMemory → (left : ℕ) → Outcome SysView Failure
memset v args m left = reading (bytes_from 0 (arg32 args 2) args m) left (λ old.
    paying (length old) left (value (arg32 args 0) v (written m (arg32 args 0) (replicate (length old) (arg32 args 1 % 256)))))

-- -1, 0 or 1 as an i32
abbrev pub comparison : Ordering → ℕ
comparison Less = 4294967295
comparison Equal = 0
comparison Greater = 1

-- memcmp(a, b, n): the first bytes that differ decide
abbrev pub memcmp : SysView → List ℕ → LinearMemory → (left : ℕ) → Outcome SysView Failure
memcmp v args m left = reading (bytes_from 0 (arg32 args 2) args m) left (λ a. reading (bytes_from 1 (arg32 args 2) args m) left (λ b.
    paying (length a) left (value (comparison (slice_cmp nat_cmp a b)) v m)))
