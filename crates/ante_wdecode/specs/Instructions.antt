-- The instructions (section 5.4).
use Rattle.std.specs.Prelude.{◌≡◌, ◌⊎◌, ℕ, zero, suc, List, [], ◌∷◌, ◌++◌, Option, None, Some}
use Rattle.ante_wtree.specs.declared.instructions.ValueKind.{ValueKind}
use Rattle.ante_wtree.specs.declared.instructions.ValueKind.TheVariants.{I32, I64}
use Rattle.ante_wtree.specs.declared.instructions.MemArg.{MemArg}
use Rattle.ante_wtree.specs.declared.instructions.PlainInstr.{PlainInstr}
use Rattle.ante_wtree.specs.declared.instructions.PlainInstr.TheVariants as plain
use Rattle.ante_wtree.specs.Expressions.{Expression, Over, Plain, Block, Loop, If, Br, BrIf, BrTable, Return, Call, CallIndirect, MemoryGrow}
use Rattle.ante_wtree.specs.Limits.{most_branch_targets}
use Rattle.ante_wdecode.specs.declared.opcodes.Indexed.{Indexed}
use Rattle.ante_wdecode.specs.declared.opcodes.Indexed.TheVariants as indexed
use Rattle.ante_wdecode.specs.declared.opcodes.Opcode.{Opcode}
use Rattle.ante_wdecode.specs.declared.opcodes.Opcode.TheVariants as opcode
use Rattle.ante_wdecode.specs.Rules.{Rule, yields, nothing, one_of, byte, items, u32, s32, s64, limited}
use Rattle.ante_wdecode.specs.InTurn.{◌>>=◌}
use Rattle.ante_wdecode.specs.Opcodes.{IsOpcodeOf, an_opcode, no_kind}

-- one thing at the front, and another in the bytes after it
abbrev pub Before : (List ℕ → Type 0) → (List ℕ → Type 0) → List ℕ → Type 0
Before first rest bytes = (a b : List ℕ) × first a × rest b × (bytes ≡ a ++ b)

abbrev pub indexed_of : Indexed → ℕ → PlainInstr
indexed_of indexed.LocalGet n = plain.LocalGet n
indexed_of indexed.LocalSet n = plain.LocalSet n
indexed_of indexed.LocalTee n = plain.LocalTee n
indexed_of indexed.GlobalGet n = plain.GlobalGet n
indexed_of indexed.GlobalSet n = plain.GlobalSet n

-- the alignment, and the offset (section 5.4.4)
abbrev pub memarg : Rule MemArg
memarg = do
  align ← u32
  offset ← u32
  yields (record { align = align; offset = offset })

-- vec(B), of at most so many items (section 5.1.3)
abbrev pub vector : {A : Type 0} → ℕ → Rule A → Rule (List A)
vector most item = do
  n ← limited most
  items n item

-- What completes an instruction without bodies, after its opcode. An instruction is what it makes of those after it.
abbrev pub completes : Opcode → Rule (Expression → Expression)
completes (opcode.Fixed i) = yields (Plain i)
completes (opcode.Indexed x) = do
  n ← u32
  yields (Plain (indexed_of x n))
completes (opcode.Load k) = do
  at ← memarg
  yields (Plain (plain.Load k at))
completes (opcode.Store k) = do
  at ← memarg
  yields (Plain (plain.Store k at))
completes opcode.MemorySize = do
  fixed ← byte 0x00
  yields (Plain plain.MemorySize)
completes opcode.MemoryGrow = do
  fixed ← byte 0x00
  yields MemoryGrow
completes opcode.I32Const = do
  n ← s32
  yields (Plain (plain.I32Const n))
completes opcode.I64Const = do
  n ← s64
  yields (Plain (plain.I64Const n))
completes opcode.Br = do
  label ← u32
  yields (Br label)
completes opcode.BrIf = do
  label ← u32
  yields (BrIf label)
completes opcode.BrTable = do
  labels ← vector most_branch_targets u32
  label ← u32
  yields (BrTable labels label)
completes opcode.Return = yields Return
completes opcode.Call = do
  function ← u32
  yields (Call function)
completes opcode.CallIndirect = do
  n ← u32
  fixed ← byte 0x00
  yields (CallIndirect n)
completes opcode.Block = nothing
completes opcode.Loop = nothing
completes opcode.If = nothing
completes opcode.Else = nothing
completes opcode.End = nothing

-- an instruction without bodies
abbrev pub single : Rule (Expression → Expression)
single = do
  l ← an_opcode
  completes l

abbrev pub IsSingle : (Expression → Expression) → List ℕ → Type 0
IsSingle make bytes = single.Spells make bytes

-- blocktype: the result's kind, where there is one (section 5.3.2)
abbrev pub kind_byte : Option ValueKind → ℕ
kind_byte None = 0x40
kind_byte (Some I32) = 0x7F
kind_byte (Some I64) = 0x7E

abbrev pub block_types : List (ℕ × Option ValueKind)
block_types = (0x40, None) ∷ (0x7F, Some I32) ∷ (0x7E, Some I64) ∷ []

abbrev pub block_type : Rule (Option ValueKind)
block_type = one_of no_kind block_types

-- an instruction with one body, which ends with `end`
abbrev pub Encloses : Opcode → Option ValueKind → (List ℕ → Type 0) → List ℕ → Type 0
Encloses l kind body bytes = (head : ℕ) × (close : ℕ) × (inner : List ℕ) × IsOpcodeOf head l × IsOpcodeOf close opcode.End × body inner × (bytes ≡ head ∷ kind_byte kind ∷ (inner ++ close ∷ []))

-- an instruction with two bodies, between which `else` stands
abbrev pub Branches : Option ValueKind → (one two : List ℕ → Type 0) → List ℕ → Type 0
Branches kind one two bytes = (head : ℕ) × (middle : ℕ) × (close : ℕ) × (first : List ℕ) × (second : List ℕ) × IsOpcodeOf head opcode.If × IsOpcodeOf middle opcode.Else × IsOpcodeOf close opcode.End × one first × two second
    × (bytes ≡ head ∷ kind_byte kind ∷ (first ++ middle ∷ (second ++ close ∷ [])))

-- Instructions one after another, in which blocks are nested so deep at most. An `if` whose second body is empty may lack
-- its `else`.
abbrev pub Spells : (depth : ℕ) → Expression → List ℕ → Type 0
Spells depth Over bytes = bytes ≡ []
Spells depth (Plain i rest) bytes = Before (IsSingle (Plain i)) (Spells depth rest) bytes
Spells depth (Br label rest) bytes = Before (IsSingle (Br label)) (Spells depth rest) bytes
Spells depth (BrIf label rest) bytes = Before (IsSingle (BrIf label)) (Spells depth rest) bytes
Spells depth (BrTable labels label rest) bytes = Before (IsSingle (BrTable labels label)) (Spells depth rest) bytes
Spells depth (Return rest) bytes = Before (IsSingle Return) (Spells depth rest) bytes
Spells depth (Call function rest) bytes = Before (IsSingle (Call function)) (Spells depth rest) bytes
Spells depth (CallIndirect n rest) bytes = Before (IsSingle (CallIndirect n)) (Spells depth rest) bytes
Spells depth (MemoryGrow rest) bytes = Before (IsSingle MemoryGrow) (Spells depth rest) bytes
Spells zero (Block kind body rest) bytes = ⊥
Spells zero (Loop kind body rest) bytes = ⊥
Spells zero (If kind one two rest) bytes = ⊥
Spells (suc depth) (Block kind body rest) bytes = Before (Encloses opcode.Block kind (Spells depth body)) (Spells (suc depth) rest) bytes
Spells (suc depth) (Loop kind body rest) bytes = Before (Encloses opcode.Loop kind (Spells depth body)) (Spells (suc depth) rest) bytes
Spells (suc depth) (If kind one two rest) bytes =
    Before (λ a. ((two ≡ Over) × Encloses opcode.If kind (Spells depth one) a) ⊎ Branches kind (Spells depth one) (Spells depth two) a) (Spells (suc depth) rest) bytes

-- an expression (section 5.4.6): instructions, and `end`
abbrev pub IsExpression : (depth : ℕ) → Expression → List ℕ → Type 0
IsExpression depth e bytes = (inner : List ℕ) × (close : ℕ) × Spells depth e inner × IsOpcodeOf close opcode.End × (bytes ≡ inner ++ close ∷ [])
