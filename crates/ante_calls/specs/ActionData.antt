-- What a run knows of itself, its action and its transaction, and what it answers.
use Rattle.std.specs.Prelude.{◌≡◌, ℕ, ◌+◌, ◌*◌, ◌%◌, ◌^◌, nat_lt, List, length, Result, Ok, Err, if◌then◌else◌}
use Rattle.ante_pack.specs.Forms.{whole}
use Rattle.ante_pack.specs.declared.fault.PackFault.{PackFault}
use Rattle.ante_types.specs.Chain.{transaction}
use Rattle.ante_types.specs.declared.chain.Transaction.{Transaction}
use Rattle.ante_types.specs.declared.failure.Failure.{Failure}
use Rattle.ante_types.specs.declared.failure.Failure.TheVariants as failure
use Rattle.ante_wmem.specs.Linear.{LinearMemory, written}
use Rattle.ante_wmem.specs.HostCalls.{Outcome, value, nothing, refused}
use Rattle.ante_calls.specs.Calls.{arg32, long, range, shorter, replies, reading, paying}
use Rattle.ante_calls.specs.Views.{SysView}

-- ---- the run

-- current_receiver()
abbrev pub current_receiver : SysView → LinearMemory → (left : ℕ) → Outcome SysView Failure
current_receiver v m left = replies (value (long v.run.receiver.0) v m) left

-- get_sender(): the receiver of the run that named this receiver or sent this action, 0 for a transaction's own action
abbrev pub get_sender : SysView → LinearMemory → (left : ℕ) → Outcome SysView Failure
get_sender v m left = replies (value (long v.run.sender.0) v m) left

-- microseconds since 1970 at the start of a slot of half a second, the first of which begins with the year 2000
abbrev pub time_of : (slot : ℕ) → ℕ
time_of slot = 946684800000000 + slot * 500000

-- current_time() and publication_time()
abbrev pub current_time : SysView → LinearMemory → (left : ℕ) → Outcome SysView Failure
current_time v m left = replies (value (long (time_of v.run.slot)) v m) left

-- ---- bytes that are copied out

abbrev pub size : List ℕ → SysView → LinearMemory → (left : ℕ) → Outcome SysView Failure
size bytes v m left = replies (value (length bytes % 2 ^ 32) v m) left

-- to the range of n bytes at an address: the size where n is 0, else the shorter of n and the size, which is copied and paid
abbrev pub copied : (at : ℕ) → ℕ × List ℕ → SysView → LinearMemory → (left : ℕ) → Outcome SysView Failure
copied at front v m left = paying (length front.1) left (value front.0 v (written m at front.1))

abbrev pub copy : List ℕ → SysView → List ℕ → LinearMemory → (left : ℕ) → Outcome SysView Failure
copy bytes v args m left = reading (range 0 args m) left (λ old. copied (arg32 args 0) (shorter (arg32 args 1) bytes) v m left)

-- action_data_size()
abbrev pub action_data_size : SysView → LinearMemory → (left : ℕ) → Outcome SysView Failure
action_data_size v m left = size v.run.action.bytes v m left

-- read_action_data(at, n)
abbrev pub read_action_data : SysView → List ℕ → LinearMemory → (left : ℕ) → Outcome SysView Failure
read_action_data v args m left = copy v.run.action.bytes v args m left

-- transaction_size()
abbrev pub transaction_size : (packed : List ℕ) → SysView → LinearMemory → (left : ℕ) → Outcome SysView Failure
transaction_size packed v m left = size packed v m left

-- read_transaction(at, n)
abbrev pub read_transaction : (packed : List ℕ) → SysView → List ℕ → LinearMemory → (left : ℕ) → Outcome SysView Failure
read_transaction packed v args m left = copy packed v args m left

-- ---- the transaction's fields

-- the bytes read as a transaction
abbrev pub IsPacked : List ℕ → Type 0
IsPacked packed = (t : Transaction) × (whole transaction packed ≡ Ok t)

-- Bytes that don't read as a transaction are never run.
abbrev pub field_of : (Transaction → ℕ) → Result Transaction PackFault → ℕ
field_of field (Ok t) = field t
field_of field (Err f) = 0

abbrev pub field : (Transaction → ℕ) → (packed : List ℕ) → SysView → LinearMemory → (left : ℕ) → Outcome SysView Failure
field f packed v m left = replies (value (field_of f (whole transaction packed) % 2 ^ 32) v m) left

-- expiration(): seconds since 1970
abbrev pub expiration : (packed : List ℕ) → SysView → LinearMemory → (left : ℕ) → Outcome SysView Failure
expiration packed v m left = field (λ t. t.expiration) packed v m left

-- tapos_block_num()
abbrev pub tapos_block_num : (packed : List ℕ) → SysView → LinearMemory → (left : ℕ) → Outcome SysView Failure
tapos_block_num packed v m left = field (λ t. t.ref_block_num) packed v m left

-- tapos_block_prefix()
abbrev pub tapos_block_prefix : (packed : List ℕ) → SysView → LinearMemory → (left : ℕ) → Outcome SysView Failure
tapos_block_prefix packed v m left = field (λ t. t.ref_block_prefix) packed v m left

-- ---- the run's answer

abbrev pub most_return : ℕ
most_return = 65536

abbrev pub with_return : List ℕ → SysView → SysView
with_return bytes v = record { world = v.world; run = record v.run { return_value = bytes } }

-- set_action_return_value(at, n): in place of what was set before
abbrev pub set_action_return_value : SysView → List ℕ → LinearMemory → (left : ℕ) → Outcome SysView Failure
set_action_return_value v args m left = reading (range 0 args m) left (λ bytes.
    paying (length bytes) left (if nat_lt most_return (length bytes) then refused failure.ReturnTooLong else nothing (with_return bytes v) m))
