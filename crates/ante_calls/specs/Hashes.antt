-- SHA-256 of FIPS 180-4.
use Rattle.std.specs.Prelude.{ℕ, List, length, codes, bytes_eq, if◌then◌else◌}
use Rattle.sha2.specs.Sha256.{sha256}
use Rattle.ante_types.specs.declared.failure.Failure.{Failure}
use Rattle.ante_types.specs.declared.failure.Failure.TheVariants as failure
use Rattle.ante_wmem.specs.Linear.{LinearMemory, written}
use Rattle.ante_wmem.specs.HostCalls.{Outcome, nothing, refused}
use Rattle.ante_calls.specs.Calls.{arg32, range, bytes_from, reading, paying}
use Rattle.ante_calls.specs.Views.{SysView}

-- sha256(at, n, to): the digest of the n bytes, in the 32 bytes at `to`
abbrev pub sha256_call : SysView → List ℕ → LinearMemory → (left : ℕ) → Outcome SysView Failure
sha256_call v args m left = reading (range 0 args m) left (λ bytes. reading (bytes_from 2 32 args m) left (λ old.
    paying (length bytes) left (nothing v (written m (arg32 args 2) (sha256 bytes)))))

-- assert_sha256(at, n, hash)
abbrev pub assert_sha256 : SysView → List ℕ → LinearMemory → (left : ℕ) → Outcome SysView Failure
assert_sha256 v args m left = reading (range 0 args m) left (λ bytes. reading (bytes_from 2 32 args m) left (λ hash.
    paying (length bytes) left (if bytes_eq (sha256 bytes) hash then nothing v m else refused (failure.Assert (codes "hash mismatch")))))
