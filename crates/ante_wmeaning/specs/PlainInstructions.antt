-- What the plain instructions do: sections 4.4.1 to 4.4.4 of WebAssembly Core 1.0.
use Rattle.std.specs.Prelude.{ℕ, ◌+◌, ◌%◌, ◌^◌, ◌&&◌, ◌==◌, nat_lt, nat_le, Bool, true, if◌then◌else◌}
use Rattle.std.specs.Prelude.{List, length, [], ◌∷◌, slice_index, slice_set, Result, Ok, Err}
use Rattle.ante_wnum.specs.Numerics.{signed, unsigned}
use Rattle.ante_wnum.specs.NumericInstructions.{unary_of, binary_of, compare_of}
use Rattle.ante_wnum.specs.declared.NumTrap.{NumTrap}
use Rattle.ante_wnum.specs.declared.NumTrap.TheVariants as num
use Rattle.ante_wmem.specs.Linear.{LinearMemory, page_count, is_inside, bytes_at, written, little_endian, low_bytes, byte_count}
use Rattle.ante_wtree.specs.declared.instructions.LoadKind.{LoadKind}
use Rattle.ante_wtree.specs.declared.instructions.StoreKind.{StoreKind}
use Rattle.ante_wtree.specs.declared.instructions.PlainInstr.{PlainInstr}
use Rattle.ante_wtree.specs.declared.instructions.PlainInstr.TheVariants as plain
use Rattle.ante_wtree.specs.Accesses.{load_width, store_width, extended}
use Rattle.ante_wmeaning.specs.declared.ends.TrapKind.{TrapKind}
use Rattle.ante_wmeaning.specs.declared.ends.TrapKind.TheVariants as trap

-- What a function's instructions see: its locals, its operands with the topmost first, the globals and the memory.
pub record Values : Type 0 where
  pub locals : List ℕ
  pub stack : List ℕ
  pub globals : List ℕ
  pub memory : LinearMemory

-- ---- operands

-- the topmost operand; there is always one where this is asked
abbrev pub top : List ℕ → ℕ
top [] = 0
top (x ∷ xs) = x

abbrev pub popped : List ℕ → List ℕ
popped [] = []
popped (x ∷ xs) = xs

-- an i32 is read as its low 32 bits
abbrev pub low : ℕ → ℕ
low n = n % 2 ^ 32

abbrev pub with_stack : Values → List ℕ → Values
with_stack v stack = record v { stack = stack }

-- ---- what an instruction gives

pub data Effect : Type 0 where
  Next : Values → Effect
  Traps : TrapKind → Effect
  -- no rule applies
  NoRule : Effect

-- the operands below, and an answer on top of them
abbrev pub gives : Values → List ℕ → ℕ → Effect
gives v below answer = Next (with_stack v (answer ∷ below))

abbrev pub trap_of : NumTrap → TrapKind
trap_of num.DivZero = trap.DivZero
trap_of num.DivOverflow = trap.DivOverflow

abbrev pub answers : Values → List ℕ → Result ℕ NumTrap → Effect
answers v below (Ok answer) = gives v below answer
answers v below (Err kind) = Traps (trap_of kind)

-- ---- loads and stores

abbrev pub loaded : LoadKind → (offset : ℕ) → (address : ℕ) → (below : List ℕ) → Values → Effect
loaded kind offset address below v =
    let count = byte_count (load_width kind) in
    if is_inside v.memory.bytes (address + offset) count
    then gives v below (extended kind (little_endian (bytes_at v.memory.bytes (address + offset) count)))
    else Traps trap.OutOfBounds

abbrev pub stored : StoreKind → (offset : ℕ) → (address value : ℕ) → (below : List ℕ) → Values → Effect
stored kind offset address value below v =
    let count = byte_count (store_width kind) in
    if is_inside v.memory.bytes (address + offset) count
    then Next (record v { stack = below; memory = written v.memory (address + offset) (low_bytes count value) })
    else Traps trap.OutOfBounds

-- ---- all of them

-- how many operands an instruction takes
abbrev pub operands : PlainInstr → ℕ
operands plain.Unreachable = 0
operands plain.Nop = 0
operands plain.Drop = 1
operands plain.Select = 3
operands (plain.LocalGet n) = 0
operands (plain.LocalSet n) = 1
operands (plain.LocalTee n) = 1
operands (plain.GlobalGet n) = 0
operands (plain.GlobalSet n) = 1
operands (plain.Load kind at) = 1
operands (plain.Store kind at) = 2
operands plain.MemorySize = 0
operands (plain.I32Const n) = 0
operands (plain.I64Const n) = 0
operands plain.I32Eqz = 1
operands (plain.I32Compare op) = 2
operands plain.I64Eqz = 1
operands (plain.I64Compare op) = 2
operands (plain.I32Unary op) = 1
operands (plain.I32Binary op) = 2
operands (plain.I64Unary op) = 1
operands (plain.I64Binary op) = 2
operands plain.I32WrapI64 = 1
operands plain.I64ExtendI32S = 1
operands plain.I64ExtendI32U = 1

-- whether the local or global that it names is there
abbrev pub finds : PlainInstr → Values → Bool
finds (plain.LocalGet n) v = nat_lt n (length v.locals)
finds (plain.LocalSet n) v = nat_lt n (length v.locals)
finds (plain.LocalTee n) v = nat_lt n (length v.locals)
finds (plain.GlobalGet n) v = nat_lt n (length v.globals)
finds (plain.GlobalSet n) v = nat_lt n (length v.globals)
finds i v = true

-- what it does with what it finds
abbrev pub done : PlainInstr → Values → Effect
done plain.Unreachable v = Traps trap.Unreachable
done plain.Nop v = Next v
done plain.Drop v = Next (with_stack v (popped v.stack))
done plain.Select v =
    let two = popped v.stack in
    let one = popped two in
    gives v (popped one) (if low (top v.stack) == 0 then top two else top one)
done (plain.LocalGet n) v = gives v v.stack (slice_index v.locals n)
done (plain.LocalSet n) v = Next (record v { locals = slice_set v.locals n (top v.stack); stack = popped v.stack })
done (plain.LocalTee n) v = Next (record v { locals = slice_set v.locals n (top v.stack) })
done (plain.GlobalGet n) v = gives v v.stack (slice_index v.globals n)
done (plain.GlobalSet n) v = Next (record v { globals = slice_set v.globals n (top v.stack); stack = popped v.stack })
done (plain.Load kind at) v = loaded kind at.offset (low (top v.stack)) (popped v.stack) v
done (plain.Store kind at) v = let below = popped v.stack in stored kind at.offset (low (top below)) (top v.stack) (popped below) v
done plain.MemorySize v = gives v v.stack (page_count v.memory)
done (plain.I32Const n) v = gives v v.stack n
done (plain.I64Const n) v = gives v v.stack n
done plain.I32Eqz v = gives v (popped v.stack) (if low (top v.stack) == 0 then 1 else 0)
done (plain.I32Compare op) v = let below = popped v.stack in gives v (popped below) (compare_of 32 op (low (top below)) (low (top v.stack)))
done plain.I64Eqz v = gives v (popped v.stack) (if top v.stack == 0 then 1 else 0)
done (plain.I64Compare op) v = let below = popped v.stack in gives v (popped below) (compare_of 64 op (top below) (top v.stack))
done (plain.I32Unary op) v = gives v (popped v.stack) (unary_of 32 op (low (top v.stack)))
done (plain.I32Binary op) v = let below = popped v.stack in answers v (popped below) (binary_of 32 op (low (top below)) (low (top v.stack)))
done (plain.I64Unary op) v = gives v (popped v.stack) (unary_of 64 op (top v.stack))
done (plain.I64Binary op) v = let below = popped v.stack in answers v (popped below) (binary_of 64 op (top below) (top v.stack))
done plain.I32WrapI64 v = gives v (popped v.stack) (low (top v.stack))
done plain.I64ExtendI32S v = gives v (popped v.stack) (unsigned 64 (signed 32 (low (top v.stack))))
done plain.I64ExtendI32U v = gives v (popped v.stack) (low (top v.stack))

-- Where it finds too few operands, or no such local or global, no rule applies.
abbrev pub effect : PlainInstr → Values → Effect
effect i v = if nat_le (operands i) (length v.stack) && finds i v then done i v else NoRule
