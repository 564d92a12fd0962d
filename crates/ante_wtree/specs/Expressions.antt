-- Sequences of instructions without their places in memory: what contracts speak of in place of `Instr`.
use Rattle.std.specs.Prelude.{◌≡◌, ℕ, List, [], ◌∷◌, Option, refl}
use Rattle.std.proofs.Common.{ap, ◌∙◌}
use Rattle.std.specs.declared.vec.Vec.{Vec}
use Rattle.std.specs.declared.alloc.Global.{Global}
use Rattle.ante_wtree.specs.declared.instructions.ValueKind.{ValueKind}
use Rattle.ante_wtree.specs.declared.instructions.PlainInstr.{PlainInstr}
use Rattle.ante_wtree.specs.declared.instructions.PlainInstr.TheVariants as plain
use Rattle.ante_wtree.specs.declared.instructions.Instr.{Instr, Row_of-Instr, end_of-Instr, more_of-Instr, items-the_row-Instr, items_hidden-the_row-Instr-0}
use Rattle.ante_wtree.specs.declared.instructions.Instr.TheVariants as instr
use Rattle.ante_wtree.specs.declared.instructions.Instr.TheBlock.{hidden-the_row-Instr-0}
use Rattle.ante_wtree.specs.declared.instructions.Instr.TheViews as made
use Rattle.ante_wtree.specs.declared.shape.Shape.{Shape}
use Rattle.ante_wtree.specs.declared.shape.Shape.TheVariants as shape

-- A sequence of instructions, without the `end` after it: an instruction with its bodies, and the instructions after it.
pub data Expression : Type 0 where
  Over : Expression
  Plain : PlainInstr → Expression → Expression
  Block : Option ValueKind → Expression → Expression → Expression
  Loop : Option ValueKind → Expression → Expression → Expression
  If : Option ValueKind → Expression → Expression → Expression → Expression
  Br : ℕ → Expression → Expression
  BrIf : ℕ → Expression → Expression
  BrTable : List ℕ → ℕ → Expression → Expression
  Return : Expression → Expression
  Call : ℕ → Expression → Expression
  CallIndirect : ℕ → Expression → Expression
  MemoryGrow : Expression → Expression

-- an instruction before a sequence, and the sequence that a body is
abbrev mutual
  pub cons : Instr → Expression → Expression
  cons instr.Unreachable rest = Plain plain.Unreachable rest
  cons instr.Nop rest = Plain plain.Nop rest
  cons (instr.Block' kind shape body) rest = Block kind (row_code body) rest
  cons (instr.Loop' kind shape body) rest = Loop kind (row_code body) rest
  cons (instr.If' kind shape one shape-2 two) rest = If kind (row_code one) (row_code two) rest
  cons (instr.Br label) rest = Br label rest
  cons (instr.BrIf label) rest = BrIf label rest
  cons (instr.BrTable labels label) rest = BrTable labels label rest
  cons instr.Return rest = Return rest
  cons (instr.Call function) rest = Call function rest
  cons (instr.CallIndirect kind) rest = CallIndirect kind rest
  cons instr.Drop rest = Plain plain.Drop rest
  cons instr.Select rest = Plain plain.Select rest
  cons (instr.LocalGet n) rest = Plain (plain.LocalGet n) rest
  cons (instr.LocalSet n) rest = Plain (plain.LocalSet n) rest
  cons (instr.LocalTee n) rest = Plain (plain.LocalTee n) rest
  cons (instr.GlobalGet n) rest = Plain (plain.GlobalGet n) rest
  cons (instr.GlobalSet n) rest = Plain (plain.GlobalSet n) rest
  cons (instr.Load kind at) rest = Plain (plain.Load kind at) rest
  cons (instr.Store kind at) rest = Plain (plain.Store kind at) rest
  cons instr.MemorySize rest = Plain plain.MemorySize rest
  cons instr.MemoryGrow rest = MemoryGrow rest
  cons (instr.I32Const n) rest = Plain (plain.I32Const n) rest
  cons (instr.I64Const n) rest = Plain (plain.I64Const n) rest
  cons instr.I32Eqz rest = Plain plain.I32Eqz rest
  cons (instr.I32Compare op) rest = Plain (plain.I32Compare op) rest
  cons instr.I64Eqz rest = Plain plain.I64Eqz rest
  cons (instr.I64Compare op) rest = Plain (plain.I64Compare op) rest
  cons (instr.I32Unary op) rest = Plain (plain.I32Unary op) rest
  cons (instr.I32Binary op) rest = Plain (plain.I32Binary op) rest
  cons (instr.I64Unary op) rest = Plain (plain.I64Unary op) rest
  cons (instr.I64Binary op) rest = Plain (plain.I64Binary op) rest
  cons instr.I32WrapI64 rest = Plain plain.I32WrapI64 rest
  cons instr.I64ExtendI32S rest = Plain plain.I64ExtendI32S rest
  cons instr.I64ExtendI32U rest = Plain plain.I64ExtendI32U rest

  pub row_code : {m : _} → Row_of-Instr m → Expression
  row_code end_of-Instr = Over
  row_code (more_of-Instr i rest) = cons i (row_code rest)

-- the sequence of these instructions
abbrev pub expression_of : List Instr → Expression
expression_of [] = Over
expression_of (i ∷ is) = cons i (expression_of is)

row_is : {n : _} (r : Row_of-Instr n) → row_code r ≡ expression_of (items-the_row-Instr n r)
row_is end_of-Instr = refl
row_is (more_of-Instr i rest) = ap (cons i) (row_is rest)

-- A body's sequence is that of its instructions.
pub body_is : (v : Vec Instr Global) → row_code (hidden-the_row-Instr-0 v) ≡ expression_of v.items
body_is v = row_is (hidden-the_row-Instr-0 v) ∙ ap expression_of (items_hidden-the_row-Instr-0 v)

-- what a shape says of an instruction, before a sequence
abbrev pub cons_shape : Shape → Expression → Expression
cons_shape (shape.Plain i) rest = Plain i rest
cons_shape (shape.Block kind body) rest = Block kind (expression_of body.now) rest
cons_shape (shape.Loop kind body) rest = Loop kind (expression_of body.now) rest
cons_shape (shape.If kind one two) rest = If kind (expression_of one.now) (expression_of two.now) rest
cons_shape (shape.Br label) rest = Br label rest
cons_shape (shape.BrIf label) rest = BrIf label rest
cons_shape (shape.BrTable labels label) rest = BrTable labels.now label rest
cons_shape shape.Return rest = Return rest
cons_shape (shape.Call function) rest = Call function rest
cons_shape (shape.CallIndirect kind) rest = CallIndirect kind rest
cons_shape shape.MemoryGrow rest = MemoryGrow rest

-- ---- the instructions with bodies, as the code makes them

pub cons-Block : (kind : Option ValueKind) (body : Vec Instr Global) (rest : Expression) → cons (made.Block kind body) rest ≡ Block kind (expression_of body.items) rest
cons-Block kind body rest = ap (λ b. Block kind b rest) (body_is body)

pub cons-Loop : (kind : Option ValueKind) (body : Vec Instr Global) (rest : Expression) → cons (made.Loop kind body) rest ≡ Loop kind (expression_of body.items) rest
cons-Loop kind body rest = ap (λ b. Loop kind b rest) (body_is body)

pub cons-If : (kind : Option ValueKind) (one two : Vec Instr Global) (rest : Expression) → cons (made.If kind one two) rest ≡ If kind (expression_of one.items) (expression_of two.items) rest
cons-If kind one two rest = ap (λ b. If kind b (row_code (hidden-the_row-Instr-0 two)) rest) (body_is one) ∙ ap (λ b. If kind (expression_of one.items) b rest) (body_is two)
