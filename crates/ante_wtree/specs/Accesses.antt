-- The loads and stores (section 2.4.4): the kind of the value, how many bytes lie in the memory, and for a load whether their sign
-- is extended.
use Rattle.std.specs.Prelude.{ℕ, ◌*◌, Bool, true, false, if◌then◌else◌}
use Rattle.ante_wnum.specs.Numerics.{signed, unsigned}
use Rattle.ante_wmem.specs.Linear.{byte_count}
use Rattle.ante_wmem.specs.declared.Width.{Width}
use Rattle.ante_wmem.specs.declared.Width.TheVariants.{One, Two, Four, Eight}
use Rattle.ante_wtree.specs.declared.instructions.ValueKind.{ValueKind}
use Rattle.ante_wtree.specs.declared.instructions.ValueKind.TheVariants.{I32, I64}
use Rattle.ante_wtree.specs.declared.instructions.LoadKind.{LoadKind}
use Rattle.ante_wtree.specs.declared.instructions.LoadKind.TheVariants as load
use Rattle.ante_wtree.specs.declared.instructions.StoreKind.{StoreKind}
use Rattle.ante_wtree.specs.declared.instructions.StoreKind.TheVariants as store

pub record Access : Type 0 where
  pub kind : ValueKind
  pub width : Width
  pub signed : Bool

abbrev pub access : ValueKind → Width → Bool → Access
access kind width signed = record { kind = kind; width = width; signed = signed }

abbrev pub load_of : LoadKind → Access
load_of load.I32 = access I32 Four false
load_of load.I64 = access I64 Eight false
load_of load.I32S8 = access I32 One true
load_of load.I32U8 = access I32 One false
load_of load.I32S16 = access I32 Two true
load_of load.I32U16 = access I32 Two false
load_of load.I64S8 = access I64 One true
load_of load.I64U8 = access I64 One false
load_of load.I64S16 = access I64 Two true
load_of load.I64U16 = access I64 Two false
load_of load.I64S32 = access I64 Four true
load_of load.I64U32 = access I64 Four false

abbrev pub store_of : StoreKind → Access
store_of store.I32 = access I32 Four false
store_of store.I64 = access I64 Eight false
store_of store.I32As8 = access I32 One false
store_of store.I32As16 = access I32 Two false
store_of store.I64As8 = access I64 One false
store_of store.I64As16 = access I64 Two false
store_of store.I64As32 = access I64 Four false

-- how many bytes, as the exponent of a power of two
abbrev pub exponent : Width → ℕ
exponent One = 0
exponent Two = 1
exponent Four = 2
exponent Eight = 3

-- ---- a load: the kind of its result, the bytes that it reads, and the bits at the width of the result

abbrev pub load_result : LoadKind → ValueKind
load_result kind = (load_of kind).kind

abbrev pub load_width : LoadKind → Width
load_width kind = (load_of kind).width

abbrev pub load_exponent : LoadKind → ℕ
load_exponent kind = exponent (load_width kind)

abbrev pub bit_width : ValueKind → ℕ
bit_width I32 = 32
bit_width I64 = 64

-- the bits as they are, or with their sign extended
abbrev pub extended_as : Access → ℕ → ℕ
extended_as a n = if a.signed then unsigned (bit_width a.kind) (signed (8 * byte_count a.width) n) else n

abbrev pub extended : LoadKind → ℕ → ℕ
extended kind n = extended_as (load_of kind) n

-- ---- a store: the kind of its operand, and the bytes that it writes

abbrev pub store_operand : StoreKind → ValueKind
store_operand kind = (store_of kind).kind

abbrev pub store_width : StoreKind → Width
store_width kind = (store_of kind).width

abbrev pub store_exponent : StoreKind → ℕ
store_exponent kind = exponent (store_width kind)
