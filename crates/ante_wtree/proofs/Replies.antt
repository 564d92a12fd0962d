-- A reply of the low bits of a number is of its kind.
use Rattle.std.proofs.Common.{◌≡◌, ℕ, ◌%◌, ◌^◌, ◌<◌, true, nat_lt, Option, None, Some, arith, lt-ltb}
use Rattle.ante_wmem.specs.Linear.{LinearMemory}
use Rattle.ante_wtree.specs.declared.instructions.ValueKind.{ValueKind}
use Rattle.ante_wtree.specs.declared.instructions.ValueKind.TheVariants.{I32, I64}
use Rattle.ante_wtree.specs.Types.{fits, mask}
use Rattle.ante_wtree.specs.Replies.{IsReplyOf, result_reply}

below : (n m : ℕ) → 0 < m → nat_lt (n % m) m ≡ true
below n m h = lt-ltb (n % m) m (omega (arith, h))

pub mask_fits : (kind : ValueKind) (n : ℕ) → fits kind (mask kind n) ≡ true
mask_fits I32 n = below n (2 ^ 32) (omega arith)
mask_fits I64 n = below n (2 ^ 64) (omega arith)

pub result_reply_typed : (W R : Type 0) (result : Option ValueKind) (n : ℕ) (w : W) (memory : LinearMemory) → IsReplyOf {W = W} {R = R} result (result_reply result n w memory)
result_reply_typed W R None n w memory = tt
result_reply_typed W R (Some kind) n w memory = mask_fits kind n
