-- How a call on rows shows its answer to a contract: what is written to memory, and the failure of a call that is refused.
use Rattle.std.specs.Prelude.{ℕ, ℤ, List, Option, None, Some, Ok, Err}
use Rattle.std.specs.Int.{w64, to_le_bytes}
use Rattle.ante_types.specs.declared.failure.Failure.{Failure}
use Rattle.ante_types.specs.declared.failure.Failure.TheVariants as failure
use Rattle.ante_wmem.specs.Linear.{LinearMemory, written}
use Rattle.ante_wmem.specs.HostCalls.{Reply, value, nothing, refused}
use Rattle.ante_calls.specs.declared.faults.DbFault.{DbFault}
use Rattle.ante_calls.specs.declared.faults.DbFault.TheVariants as fault
use Rattle.ante_calls.specs.Calls.{word, write_refused}
use Rattle.ante_calls.specs.Rows.{Answer}
use Rattle.ante_calls.specs.Views.{RowView}

-- The failure of a call of this name. No definition answers want of memory.
abbrev pub failure_of : (name : List ℕ) → DbFault → Failure
failure_of name (fault.BadIterator it) = failure.BadIterator it
failure_of name (fault.KeyExists primary) = failure.KeyExists primary
failure_of name (fault.NotOwner code) = failure.NotOwner code
failure_of name (fault.BadPayer account) = failure.BadPayer account
failure_of name (fault.UnknownAccount account) = failure.UnknownAccount account
failure_of name fault.WriteRefused = write_refused name
failure_of name fault.RamTotal = failure.RamTotal
failure_of name fault.OutOfMemory = failure.RamTotal

abbrev pub answered : {A : Type 0} → (name : List ℕ) → Answer A → (A → RowView → Reply RowView Failure) → Reply RowView Failure
answered name (Ok a) go = go a.0 a.1
answered name (Err f) go = refused (failure_of name f)

-- an iterator, and nothing written
abbrev pub iterator_alone : LinearMemory → ℤ → RowView → Reply RowView Failure
iterator_alone m it v = value (word it) v m

abbrev pub no_answer : LinearMemory → Unit {0} → RowView → Reply RowView Failure
no_answer m done v = nothing v m

-- the memory with these bytes, if there are some
abbrev pub with_bytes : Option (List ℕ) → (at : ℕ) → LinearMemory → LinearMemory
with_bytes None at m = m
with_bytes (Some bytes) at m = written m at bytes

-- the eight bytes of a primary key
abbrev pub primary_bytes : ℕ → List ℕ
primary_bytes primary = to_le_bytes w64 primary

abbrev pub with_primary : Option ℕ → (at : ℕ) → LinearMemory → LinearMemory
with_primary None at m = m
with_primary (Some primary) at m = written m at (primary_bytes primary)

-- an iterator, with the primary key of its row written to this address
abbrev pub iterator_and_primary : (at : ℕ) → LinearMemory → ℤ × Option ℕ → RowView → Reply RowView Failure
iterator_and_primary at m a v = value (word a.0) v (with_primary a.1 at m)
