-- What a run prints. Its console ends at a fixed length: what is printed past it is lost.
use Rattle.std.specs.Prelude.{ℕ, List, ◌++◌, length, take, decimal}
use Rattle.std.specs.Fmt.{signed_decimal}
use Rattle.std.specs.Int.{w64, w128, cast_signed, from_le_bytes}
use Rattle.hex.specs.Hex.{encode_lower}
use Rattle.ante_pack.specs.Names.{name_text}
use Rattle.ante_types.specs.declared.failure.Failure.{Failure}
use Rattle.ante_wmem.specs.Linear.{LinearMemory}
use Rattle.ante_wmem.specs.HostCalls.{Reply, Outcome, nothing}
use Rattle.ante_calls.specs.Calls.{arg, range, text, bytes_from, replies, reading, paying}
use Rattle.ante_calls.specs.Views.{SysView}

abbrev pub most_console : ℕ
most_console = 65536

abbrev pub with_console : List ℕ → SysView → SysView
with_console more v = record { world = v.world; run = record v.run { console = take most_console (v.run.console ++ more) } }

abbrev pub prints_text : List ℕ → SysView → LinearMemory → Reply SysView Failure
prints_text more v m = nothing (with_console more v) m

-- prints(text): the whole text is paid for, also where it is cut
abbrev pub prints : SysView → List ℕ → LinearMemory → (left : ℕ) → Outcome SysView Failure
prints v args m left = reading (text 0 args m) left (λ bytes. paying (length bytes) left (prints_text bytes v m))

-- prints_l(at, n)
abbrev pub prints_l : SysView → List ℕ → LinearMemory → (left : ℕ) → Outcome SysView Failure
prints_l v args m left = reading (range 0 args m) left (λ bytes. paying (length bytes) left (prints_text bytes v m))

-- printhex(at, n): the n bytes are paid for, and not their 2n digits
abbrev pub printhex : SysView → List ℕ → LinearMemory → (left : ℕ) → Outcome SysView Failure
printhex v args m left = reading (range 0 args m) left (λ bytes. paying (length bytes) left (prints_text (encode_lower bytes) v m))

-- printi(value), printui(value), printn(name)
abbrev pub printi : SysView → List ℕ → LinearMemory → (left : ℕ) → Outcome SysView Failure
printi v args m left = replies (prints_text (signed_decimal (cast_signed w64 (arg args 0))) v m) left

abbrev pub printui : SysView → List ℕ → LinearMemory → (left : ℕ) → Outcome SysView Failure
printui v args m left = replies (prints_text (decimal (arg args 0)) v m) left

abbrev pub printn : SysView → List ℕ → LinearMemory → (left : ℕ) → Outcome SysView Failure
printn v args m left = replies (prints_text (name_text (arg args 0)) v m) left

-- printi128(at), printui128(at): the number in 16 bytes
abbrev pub printi128 : SysView → List ℕ → LinearMemory → (left : ℕ) → Outcome SysView Failure
printi128 v args m left = reading (bytes_from 0 16 args m) left (λ bytes.
    replies (prints_text (signed_decimal (cast_signed w128 (from_le_bytes w128 bytes))) v m) left)

abbrev pub printui128 : SysView → List ℕ → LinearMemory → (left : ℕ) → Outcome SysView Failure
printui128 v args m left = reading (bytes_from 0 16 args m) left (λ bytes. replies (prints_text (decimal (from_le_bytes w128 bytes)) v m) left)
