-- A call of an intrinsic as a pure function of what it sees. What a call does stands in this order: the ranges that its arguments name must
-- lie in the memory; the bytes that it moves are paid; in reading mode a call that writes is refused; then come its own refusals.
use Rattle.std.specs.Prelude.{ℕ, ◌+◌, ◌-◌, ◌/◌, ◌%◌, ◌^◌, ◌==◌, ℤ, nat_lt, min, List, [], length, take, drop, position, slice_index_or, Option, None, Some, if◌then◌else◌}
use Rattle.std.specs.Int.{w32, cast_signed, cast_unsigned}
use Rattle.ante_pack.specs.declared.names.Name.{Name}
use Rattle.ante_types.specs.declared.context.Mode.{Mode}
use Rattle.ante_types.specs.declared.context.Mode.TheVariants as mode
use Rattle.ante_types.specs.declared.failure.Failure.{Failure}
use Rattle.ante_types.specs.declared.failure.Failure.TheVariants as failure
use Rattle.ante_wmem.specs.Linear.{LinearMemory, is_inside, bytes_at}
use Rattle.ante_wmem.specs.HostCalls.{Reply, Outcome, value, nothing, exit, refused, step_limit}

-- ---- arguments

-- the k-th argument, from 0: an i64, an i32, an i32 as a signed number, a name
abbrev pub arg : List ℕ → ℕ → ℕ
arg args k = slice_index_or args k 0

abbrev pub arg32 : List ℕ → ℕ → ℕ
arg32 args k = arg args k % 2 ^ 32

abbrev pub signed_arg : List ℕ → ℕ → ℤ
signed_arg args k = cast_signed w32 (arg32 args k)

abbrev pub name_arg : List ℕ → ℕ → Name
name_arg args k = record { 0 = arg args k }

-- a signed number as an i32
abbrev pub word : ℤ → ℕ
word z = cast_unsigned w32 z % 2 ^ 32

-- a number as an i64
abbrev pub long : ℕ → ℕ
long n = n % 2 ^ 64

-- ---- ranges

-- the bytes of a range, if it lies in the memory; a range of no bytes always does
abbrev pub bytes_in : (at count : ℕ) → LinearMemory → Option (List ℕ)
bytes_in at count m = if is_inside m.bytes at count then Some (bytes_at m.bytes at count) else None

-- the range that the k-th argument and the next name, an address and a count
abbrev pub range : (k : ℕ) → List ℕ → LinearMemory → Option (List ℕ)
range k args m = bytes_in (arg32 args k) (arg32 args (k + 1)) m

-- so many bytes from the k-th argument on
abbrev pub bytes_from : (k count : ℕ) → List ℕ → LinearMemory → Option (List ℕ)
bytes_from k count args m = bytes_in (arg32 args k) count m

abbrev pub up_to_zero : List ℕ → Option ℕ → Option (List ℕ)
up_to_zero bytes None = None
up_to_zero bytes (Some n) = Some (take n bytes)

-- the text from the k-th argument on: the bytes before the first zero byte, if there is one
abbrev pub text : (k : ℕ) → List ℕ → LinearMemory → Option (List ℕ)
text k args m = let bytes = drop (arg32 args k) m.bytes in up_to_zero bytes (position (λ b. b == 0) bytes)

-- What a call copies of these bytes into a range of n bytes, and what it answers: the shorter count, or, where n is 0, how many there are.
abbrev pub shorter : (n : ℕ) → List ℕ → ℕ × List ℕ
shorter n bytes = if n == 0 then (length bytes % 2 ^ 32, []) else (min n (length bytes), take n bytes)

-- ---- failures that name something

abbrev pub write_refused : (name : List ℕ) → Failure
write_refused name = failure.WriteRefused name

abbrev pub unsupported : (field : List ℕ) → Failure
unsupported field = failure.Unsupported field

abbrev pub trapped : (kind : List ℕ) → Failure
trapped kind = failure.Trap kind

-- ---- the order of a call

module _ {W : Type 0} where
  abbrev pub refuses : Failure → (left : ℕ) → Outcome W Failure
  refuses f left = record { reply = refused f; left = left }

  -- at no cost
  abbrev pub replies : Reply W Failure → (left : ℕ) → Outcome W Failure
  replies reply left = record { reply = reply; left = left }

  -- the bytes of the range or text, or BadPointer
  abbrev pub reading : Option (List ℕ) → (left : ℕ) → (List ℕ → Outcome W Failure) → Outcome W Failure
  reading None left go = refuses failure.BadPointer left
  reading (Some bytes) left go = go bytes

  -- one step for each whole 64 bytes that are moved
  abbrev pub paying : (moved : ℕ) → (left : ℕ) → Reply W Failure → Outcome W Failure
  paying moved left reply = if nat_lt left (moved / 64) then record { reply = step_limit; left = 0 } else record { reply = reply; left = left - moved / 64 }

  -- a call that writes, by its name
  abbrev pub writing : Mode → (name : List ℕ) → Reply W Failure → Reply W Failure
  writing mode.Reading name reply = refused (write_refused name)
  writing mode.Writing name reply = reply

  -- its own refusals, of which the first that applies is given, or what it does
  abbrev pub unless : Option Failure → Reply W Failure → Reply W Failure
  unless (Some f) reply = refused f
  unless None reply = reply

module _ {V W R : Type 0} where
  abbrev pub map_reply : (V → W) → Reply V R → Reply W R
  map_reply f (value n v m) = value n (f v) m
  map_reply f (nothing v m) = nothing (f v) m
  map_reply f (exit v m) = exit (f v) m
  map_reply f (refused r) = refused r
  map_reply f step_limit = step_limit

  abbrev pub map_outcome : (V → W) → Outcome V R → Outcome W R
  map_outcome f o = record { reply = map_reply f o.reply; left = o.left }
