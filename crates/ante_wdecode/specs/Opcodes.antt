-- The opcodes of the profile (sections 5.4.1 to 5.4.5).
use Rattle.std.specs.Prelude.{◌≡◌, ℕ, Bool, ◌&&◌, ◌||◌, List, [], ◌∷◌, Some, nat_le, if◌then◌else◌}
use Rattle.ante_wnum.specs.declared.Unary.TheVariants as unary
use Rattle.ante_wnum.specs.declared.Binary.TheVariants as binary
use Rattle.ante_wnum.specs.declared.Compare.TheVariants as compare
use Rattle.ante_wtree.specs.declared.instructions.LoadKind.TheVariants as load
use Rattle.ante_wtree.specs.declared.instructions.StoreKind.TheVariants as store
use Rattle.ante_wtree.specs.declared.instructions.PlainInstr.TheVariants as plain
use Rattle.ante_wdecode.specs.declared.opcodes.Opcode.{Opcode}
use Rattle.ante_wdecode.specs.declared.opcodes.Opcode.TheVariants.{Fixed, Indexed, Load, Store, MemorySize, MemoryGrow, I32Const, I64Const, Br, BrIf, BrTable, Return, Call, CallIndirect, Block, Loop, If, Else, End}
use Rattle.ante_wdecode.specs.declared.opcodes.Indexed.TheVariants as indexed
use Rattle.ante_wtree.specs.declared.instructions.ValueKind.{ValueKind}
use Rattle.ante_wtree.specs.declared.instructions.ValueKind.TheVariants.{I32, I64}
use Rattle.ante_wdecode.specs.declared.fault.DecodeKind.{DecodeKind}
use Rattle.ante_wdecode.specs.declared.fault.DecodeKind.TheVariants as kind
use Rattle.ante_wdecode.specs.Rules.{Rule, among, one_of}

abbrev pub i64_numbers : List (ℕ × Opcode)
i64_numbers =
    (0x79, Fixed (plain.I64Unary unary.Clz)) ∷
    (0x7A, Fixed (plain.I64Unary unary.Ctz)) ∷
    (0x7B, Fixed (plain.I64Unary unary.Popcnt)) ∷
    (0x7C, Fixed (plain.I64Binary binary.Add)) ∷
    (0x7D, Fixed (plain.I64Binary binary.Sub)) ∷
    (0x7E, Fixed (plain.I64Binary binary.Mul)) ∷
    (0x7F, Fixed (plain.I64Binary binary.DivS)) ∷
    (0x80, Fixed (plain.I64Binary binary.DivU)) ∷
    (0x81, Fixed (plain.I64Binary binary.RemS)) ∷
    (0x82, Fixed (plain.I64Binary binary.RemU)) ∷
    (0x83, Fixed (plain.I64Binary binary.And)) ∷
    (0x84, Fixed (plain.I64Binary binary.Or)) ∷
    (0x85, Fixed (plain.I64Binary binary.Xor)) ∷
    (0x86, Fixed (plain.I64Binary binary.Shl)) ∷
    (0x87, Fixed (plain.I64Binary binary.ShrS)) ∷
    (0x88, Fixed (plain.I64Binary binary.ShrU)) ∷
    (0x89, Fixed (plain.I64Binary binary.Rotl)) ∷
    (0x8A, Fixed (plain.I64Binary binary.Rotr)) ∷
    (0xA7, Fixed plain.I32WrapI64) ∷
    (0xAC, Fixed plain.I64ExtendI32S) ∷
    (0xAD, Fixed plain.I64ExtendI32U) ∷
    []

abbrev pub i32_numbers : List (ℕ × Opcode)
i32_numbers =
    (0x67, Fixed (plain.I32Unary unary.Clz)) ∷
    (0x68, Fixed (plain.I32Unary unary.Ctz)) ∷
    (0x69, Fixed (plain.I32Unary unary.Popcnt)) ∷
    (0x6A, Fixed (plain.I32Binary binary.Add)) ∷
    (0x6B, Fixed (plain.I32Binary binary.Sub)) ∷
    (0x6C, Fixed (plain.I32Binary binary.Mul)) ∷
    (0x6D, Fixed (plain.I32Binary binary.DivS)) ∷
    (0x6E, Fixed (plain.I32Binary binary.DivU)) ∷
    (0x6F, Fixed (plain.I32Binary binary.RemS)) ∷
    (0x70, Fixed (plain.I32Binary binary.RemU)) ∷
    (0x71, Fixed (plain.I32Binary binary.And)) ∷
    (0x72, Fixed (plain.I32Binary binary.Or)) ∷
    (0x73, Fixed (plain.I32Binary binary.Xor)) ∷
    (0x74, Fixed (plain.I32Binary binary.Shl)) ∷
    (0x75, Fixed (plain.I32Binary binary.ShrS)) ∷
    (0x76, Fixed (plain.I32Binary binary.ShrU)) ∷
    (0x77, Fixed (plain.I32Binary binary.Rotl)) ∷
    (0x78, Fixed (plain.I32Binary binary.Rotr)) ∷
    i64_numbers

abbrev pub comparisons : List (ℕ × Opcode)
comparisons =
    (0x45, Fixed plain.I32Eqz) ∷
    (0x46, Fixed (plain.I32Compare compare.Eq)) ∷
    (0x47, Fixed (plain.I32Compare compare.Ne)) ∷
    (0x48, Fixed (plain.I32Compare compare.LtS)) ∷
    (0x49, Fixed (plain.I32Compare compare.LtU)) ∷
    (0x4A, Fixed (plain.I32Compare compare.GtS)) ∷
    (0x4B, Fixed (plain.I32Compare compare.GtU)) ∷
    (0x4C, Fixed (plain.I32Compare compare.LeS)) ∷
    (0x4D, Fixed (plain.I32Compare compare.LeU)) ∷
    (0x4E, Fixed (plain.I32Compare compare.GeS)) ∷
    (0x4F, Fixed (plain.I32Compare compare.GeU)) ∷
    (0x50, Fixed plain.I64Eqz) ∷
    (0x51, Fixed (plain.I64Compare compare.Eq)) ∷
    (0x52, Fixed (plain.I64Compare compare.Ne)) ∷
    (0x53, Fixed (plain.I64Compare compare.LtS)) ∷
    (0x54, Fixed (plain.I64Compare compare.LtU)) ∷
    (0x55, Fixed (plain.I64Compare compare.GtS)) ∷
    (0x56, Fixed (plain.I64Compare compare.GtU)) ∷
    (0x57, Fixed (plain.I64Compare compare.LeS)) ∷
    (0x58, Fixed (plain.I64Compare compare.LeU)) ∷
    (0x59, Fixed (plain.I64Compare compare.GeS)) ∷
    (0x5A, Fixed (plain.I64Compare compare.GeU)) ∷
    i32_numbers

abbrev pub memory : List (ℕ × Opcode)
memory =
    (0x28, Load load.I32) ∷
    (0x29, Load load.I64) ∷
    (0x2C, Load load.I32S8) ∷
    (0x2D, Load load.I32U8) ∷
    (0x2E, Load load.I32S16) ∷
    (0x2F, Load load.I32U16) ∷
    (0x30, Load load.I64S8) ∷
    (0x31, Load load.I64U8) ∷
    (0x32, Load load.I64S16) ∷
    (0x33, Load load.I64U16) ∷
    (0x34, Load load.I64S32) ∷
    (0x35, Load load.I64U32) ∷
    (0x36, Store store.I32) ∷
    (0x37, Store store.I64) ∷
    (0x3A, Store store.I32As8) ∷
    (0x3B, Store store.I32As16) ∷
    (0x3C, Store store.I64As8) ∷
    (0x3D, Store store.I64As16) ∷
    (0x3E, Store store.I64As32) ∷
    (0x3F, MemorySize) ∷
    (0x40, MemoryGrow) ∷
    (0x41, I32Const) ∷
    (0x42, I64Const) ∷
    comparisons

abbrev pub opcodes : List (ℕ × Opcode)
opcodes =
    (0x00, Fixed plain.Unreachable) ∷
    (0x01, Fixed plain.Nop) ∷
    (0x02, Block) ∷
    (0x03, Loop) ∷
    (0x04, If) ∷
    (0x05, Else) ∷
    (0x0B, End) ∷
    (0x0C, Br) ∷
    (0x0D, BrIf) ∷
    (0x0E, BrTable) ∷
    (0x0F, Return) ∷
    (0x10, Call) ∷
    (0x11, CallIndirect) ∷
    (0x1A, Fixed plain.Drop) ∷
    (0x1B, Fixed plain.Select) ∷
    (0x20, Indexed indexed.LocalGet) ∷
    (0x21, Indexed indexed.LocalSet) ∷
    (0x22, Indexed indexed.LocalTee) ∷
    (0x23, Indexed indexed.GlobalGet) ∷
    (0x24, Indexed indexed.GlobalSet) ∷
    memory

-- The byte is this opcode.
abbrev pub IsOpcodeOf : ℕ → Opcode → Type 0
IsOpcodeOf byte opcode = among opcodes byte ≡ Some opcode

abbrev pub is_between : (low high byte : ℕ) → Bool
is_between low high byte = nat_le low byte && nat_le byte high

-- the opcodes of floating-point instructions
abbrev pub is_float : ℕ → Bool
is_float byte =
    is_between 0x2A 0x2B byte || is_between 0x38 0x39 byte || is_between 0x43 0x44 byte || is_between 0x5B 0x66 byte
    || is_between 0x8B 0xA6 byte || is_between 0xA8 0xAB byte || is_between 0xAE 0xBF byte

-- what is wrong with a byte that is no opcode of the profile
abbrev pub no_opcode : ℕ → DecodeKind
no_opcode byte = if is_float byte then kind.Float else kind.Opcode

abbrev pub an_opcode : Rule Opcode
an_opcode = one_of no_opcode opcodes

-- what is wrong with a byte that is no kind of values, of which 7C and 7D are the floating-point ones
abbrev pub no_kind : ℕ → DecodeKind
no_kind byte = if is_between 0x7C 0x7D byte then kind.Float else kind.Form

-- valtype (section 5.3.1)
abbrev pub value_types : List (ℕ × ValueKind)
value_types = (0x7F, I32) ∷ (0x7E, I64) ∷ []

abbrev pub value_type : Rule ValueKind
value_type = one_of no_kind value_types
