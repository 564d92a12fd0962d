-- The typing of instructions (Core 1.0, section 3.3), over stacks of operands' kinds with the topmost kind first.
use Rattle.std.specs.Prelude.{◌≡◌, ℕ, Bool, true, false, ◌&&◌, nat_le, List, [], ◌∷◌, Option, None, Some, slice_get}
use Rattle.std.specs.List.{All}
use Rattle.ante_wtree.specs.declared.instructions.ValueKind.{ValueKind}
use Rattle.ante_wtree.specs.declared.instructions.ValueKind.TheVariants.{I32, I64}
use Rattle.ante_wtree.specs.declared.instructions.PlainInstr.{PlainInstr}
use Rattle.ante_wtree.specs.declared.instructions.PlainInstr.TheVariants as plain
use Rattle.ante_wtree.specs.declared.modules.FuncType.{FuncType}
use Rattle.ante_wtree.specs.declared.modules.Global.{Global}
use Rattle.ante_wtree.specs.Types.{kinds_of}
use Rattle.ante_wtree.specs.Accesses.{load_result, load_exponent, store_operand, store_exponent}
use Rattle.ante_wtree.specs.Expressions.{Expression, Over, Plain, Block, Loop, If, Br, BrIf, BrTable, Return, Call, CallIndirect, MemoryGrow}

-- What an instruction is typed in (section 3.1.1). The label of the innermost block comes first.
pub record Context : Type 0 where
  pub types : List FuncType
  pub functions : List ℕ  -- the number of each function's type
  pub table : Bool  -- whether there is one
  pub memory : Bool  -- whether there is one
  pub globals : List Global
  pub locals : List ValueKind
  pub labels : List (Option ValueKind)
  pub result : Option ValueKind

-- the context inside a block with this label
abbrev pub inside : Option ValueKind → Context → Context
inside label c = record {
  types = c.types;
  functions = c.functions;
  table = c.table;
  memory = c.memory;
  globals = c.globals;
  locals = c.locals;
  labels = label ∷ c.labels;
  result = c.result;
}

-- ---- what is done to a stack

abbrev pub Operands : Type 0
Operands = List ValueKind

-- the stack with these kinds put onto it, one after the other
abbrev pub onto : List ValueKind → Operands → Operands
onto [] stack = stack
onto (kind ∷ kinds) stack = onto kinds (kind ∷ stack)

abbrev pub Pops : List ValueKind → Operands → Operands → Type 0
Pops kinds before after = before ≡ onto kinds after

abbrev pub Pushes : List ValueKind → Operands → Operands → Type 0
Pushes kinds before after = after ≡ onto kinds before

-- whatever was there, whatever comes: what stands after an instruction that doesn't go on is typed with any stack
abbrev pub Anything : Operands → Operands → Type 0
Anything before after = Unit {0}

-- one after the other
abbrev pub Then : (Operands → Operands → Type 0) → (Operands → Operands → Type 0) → Operands → Operands → Type 0
Then first second before after = (between : Operands) × first before between × second between after

-- takes these, the last from the top, and gives those
abbrev pub Turns : (takes gives : List ValueKind) → Operands → Operands → Type 0
Turns takes gives = Then (Pops takes) (Pushes gives)

-- with what is found, and never where nothing is
abbrev pub With : {A : Type 0} → Option A → (A → Operands → Operands → Type 0) → Operands → Operands → Type 0
With {A} found does before after = (x : A) × (found ≡ Some x) × does x before after

-- only where this holds
abbrev pub Where : Type 0 → (Operands → Operands → Type 0) → Operands → Operands → Type 0
Where holds does before after = holds × does before after

-- ---- plain instructions

-- the type of an instruction: what it takes and gives
pub data InstrType : Type 0 where
  Fixed : (takes gives : List ValueKind) → InstrType
  Drops : InstrType  -- one operand of any kind
  Selects : InstrType  -- i32 and two of one kind, and one of that kind
  Unbounded : InstrType  -- any stack, and any stack
  Untyped : InstrType  -- not typed here

abbrev pub found : {A : Type 0} → Option A → (A → InstrType) → InstrType
found None f = Untyped
found (Some x) f = f x

abbrev pub only_if : Bool → InstrType → InstrType
only_if true t = t
only_if false t = Untyped

-- Sections 3.3.1 to 3.3.4. An access to the memory is aligned to no more bytes than it moves.
abbrev pub type_of : Context → PlainInstr → InstrType
type_of c plain.Unreachable = Unbounded
type_of c plain.Nop = Fixed [] []
type_of c plain.Drop = Drops
type_of c plain.Select = Selects
type_of c (plain.LocalGet n) = found (slice_get c.locals n) (λ k. Fixed [] (k ∷ []))
type_of c (plain.LocalSet n) = found (slice_get c.locals n) (λ k. Fixed (k ∷ []) [])
type_of c (plain.LocalTee n) = found (slice_get c.locals n) (λ k. Fixed (k ∷ []) (k ∷ []))
type_of c (plain.GlobalGet n) = found (slice_get c.globals n) (λ g. Fixed [] (g.kind ∷ []))
type_of c (plain.GlobalSet n) = found (slice_get c.globals n) (λ g. only_if g.changes (Fixed (g.kind ∷ []) []))
type_of c (plain.Load kind at) = only_if (c.memory && nat_le at.align (load_exponent kind)) (Fixed (I32 ∷ []) (load_result kind ∷ []))
type_of c (plain.Store kind at) = only_if (c.memory && nat_le at.align (store_exponent kind)) (Fixed (I32 ∷ store_operand kind ∷ []) [])
type_of c plain.MemorySize = only_if c.memory (Fixed [] (I32 ∷ []))
type_of c (plain.I32Const n) = Fixed [] (I32 ∷ [])
type_of c (plain.I64Const n) = Fixed [] (I64 ∷ [])
type_of c plain.I32Eqz = Fixed (I32 ∷ []) (I32 ∷ [])
type_of c (plain.I32Compare op) = Fixed (I32 ∷ I32 ∷ []) (I32 ∷ [])
type_of c plain.I64Eqz = Fixed (I64 ∷ []) (I32 ∷ [])
type_of c (plain.I64Compare op) = Fixed (I64 ∷ I64 ∷ []) (I32 ∷ [])
type_of c (plain.I32Unary op) = Fixed (I32 ∷ []) (I32 ∷ [])
type_of c (plain.I32Binary op) = Fixed (I32 ∷ I32 ∷ []) (I32 ∷ [])
type_of c (plain.I64Unary op) = Fixed (I64 ∷ []) (I64 ∷ [])
type_of c (plain.I64Binary op) = Fixed (I64 ∷ I64 ∷ []) (I64 ∷ [])
type_of c plain.I32WrapI64 = Fixed (I64 ∷ []) (I32 ∷ [])
type_of c plain.I64ExtendI32S = Fixed (I32 ∷ []) (I64 ∷ [])
type_of c plain.I64ExtendI32U = Fixed (I32 ∷ []) (I64 ∷ [])

abbrev pub Dropped : Operands → Operands → Type 0
Dropped before after = (kind : ValueKind) × (before ≡ kind ∷ after)

abbrev pub Selected : Operands → Operands → Type 0
Selected before after = (kind : ValueKind) × (below : Operands) × (before ≡ I32 ∷ kind ∷ kind ∷ below) × (after ≡ kind ∷ below)

-- what an instruction of this type does
abbrev pub Moves : InstrType → Operands → Operands → Type 0
Moves (Fixed takes gives) before after = Turns takes gives before after
Moves Drops before after = Dropped before after
Moves Selects before after = Selected before after
Moves Unbounded before after = Anything before after
Moves Untyped before after = ⊥

-- ---- instructions that jump, call or make the memory grow (sections 3.3.4 and 3.3.5)

-- takes what the label wants, and doesn't go on
abbrev pub Leaves : Option ValueKind → Operands → Operands → Type 0
Leaves label = Then (Pops (kinds_of label)) Anything

abbrev pub Jumps : Context → ℕ → Operands → Operands → Type 0
Jumps c n = With (slice_get c.labels n) Leaves

-- takes a test and what the label wants, and leaves this where it goes on
abbrev pub LeavesIf : Option ValueKind → Operands → Operands → Type 0
LeavesIf label = Then (Pops (I32 ∷ [])) (Turns (kinds_of label) (kinds_of label))

abbrev pub JumpsIf : Context → ℕ → Operands → Operands → Type 0
JumpsIf c n = With (slice_get c.labels n) LeavesIf

-- takes a number, and leaves for one of the targets, whose labels all want the same
abbrev pub LeavesAmong : (labels : List (Option ValueKind)) → List ℕ → Option ValueKind → Operands → Operands → Type 0
LeavesAmong labels targets label = Where (All (λ k. slice_get labels k ≡ Some label) targets) (Then (Pops (I32 ∷ [])) (Leaves label))

abbrev pub JumpsAmong : Context → List ℕ → ℕ → Operands → Operands → Type 0
JumpsAmong c targets n = With (slice_get c.labels n) (LeavesAmong c.labels targets)

-- the type of this number
abbrev pub type_numbered : List FuncType → Option ℕ → Option FuncType
type_numbered types None = None
type_numbered types (Some number) = slice_get types number

abbrev pub function_type : Context → ℕ → Option FuncType
function_type c f = type_numbered c.types (slice_get c.functions f)

abbrev pub Calls : FuncType → Operands → Operands → Type 0
Calls t = Turns t.params t.results

abbrev pub CallsNamed : Context → ℕ → Operands → Operands → Type 0
CallsNamed c f = With (function_type c f) Calls

-- takes the place in the table, and calls what is there
abbrev pub CallsAt : FuncType → Operands → Operands → Type 0
CallsAt t = Then (Pops (I32 ∷ [])) (Calls t)

abbrev pub CallsByTable : Context → ℕ → Operands → Operands → Type 0
CallsByTable c number = Where (c.table ≡ true) (With (slice_get c.types number) CallsAt)

abbrev pub Grows : Context → Operands → Operands → Type 0
Grows c = Where (c.memory ≡ true) (Turns (I32 ∷ []) (I32 ∷ []))

-- ---- sequences

-- An expression can take the one stack to the other: each instruction does what its type says, one after the other. A
-- block's body begins with no operands and leaves the block's result. A loop's label wants nothing.
abbrev pub Typed : Context → Expression → (before after : Operands) → Type 0
Typed c Over before after = before ≡ after
Typed c (Plain i rest) before after = Then (Moves (type_of c i)) (Typed c rest) before after
Typed c (Block kind body rest) before after =
    Then (Where (Typed (inside kind c) body [] (kinds_of kind)) (Pushes (kinds_of kind))) (Typed c rest) before after
Typed c (Loop kind body rest) before after =
    Then (Where (Typed (inside None c) body [] (kinds_of kind)) (Pushes (kinds_of kind))) (Typed c rest) before after
Typed c (If kind one two rest) before after =
    Then (Where (Typed (inside kind c) one [] (kinds_of kind) × Typed (inside kind c) two [] (kinds_of kind)) (Turns (I32 ∷ []) (kinds_of kind))) (Typed c rest) before after
Typed c (Br n rest) before after = Then (Jumps c n) (Typed c rest) before after
Typed c (BrIf n rest) before after = Then (JumpsIf c n) (Typed c rest) before after
Typed c (BrTable targets n rest) before after = Then (JumpsAmong c targets n) (Typed c rest) before after
Typed c (Return rest) before after = Then (Leaves c.result) (Typed c rest) before after
Typed c (Call f rest) before after = Then (CallsNamed c f) (Typed c rest) before after
Typed c (CallIndirect kind rest) before after = Then (CallsByTable c kind) (Typed c rest) before after
Typed c (MemoryGrow rest) before after = Then (Grows c) (Typed c rest) before after
