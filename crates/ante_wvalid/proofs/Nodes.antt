-- How many instructions an expression has, with those of its bodies: the measure of the recursion over bodies.
use Rattle.std.proofs.Common.{◌≡◌, ℕ, suc, ◌+◌, ap, ◌∙◌, arith}
use Rattle.ante_wtree.specs.declared.instructions.Instr.{Instr}
use Rattle.ante_wtree.specs.declared.shape.Shape.{Shape}
use Rattle.ante_wtree.specs.declared.shape.Shape.TheVariants as shape
use Rattle.ante_wtree.specs.Expressions.{Expression, cons, cons_shape, Over, Plain, Block, Loop, If, Br, BrIf, BrTable, Return, Call, CallIndirect, MemoryGrow}

abbrev pub nodes : Expression → ℕ
nodes Over = 0
nodes (Plain i rest) = suc (nodes rest)
nodes (Block kind body rest) = suc (nodes body + nodes rest)
nodes (Loop kind body rest) = suc (nodes body + nodes rest)
nodes (If kind one two rest) = suc (nodes one + nodes two + nodes rest)
nodes (Br n rest) = suc (nodes rest)
nodes (BrIf n rest) = suc (nodes rest)
nodes (BrTable ns n rest) = suc (nodes rest)
nodes (Return rest) = suc (nodes rest)
nodes (Call f rest) = suc (nodes rest)
nodes (CallIndirect n rest) = suc (nodes rest)
nodes (MemoryGrow rest) = suc (nodes rest)

abbrev pub size_of : Shape → ℕ
size_of s = nodes (cons_shape s Over)

pub sum_of : (s : Shape) (rest : Expression) → nodes (cons_shape s rest) ≡ size_of s + nodes rest
sum_of (shape.Plain i) rest = omega arith
sum_of (shape.Block kind body) rest = omega arith
sum_of (shape.Loop kind body) rest = omega arith
sum_of (shape.If kind one two) rest = omega arith
sum_of (shape.Br n) rest = omega arith
sum_of (shape.BrIf n) rest = omega arith
sum_of (shape.BrTable ns n) rest = omega arith
sum_of shape.Return rest = omega arith
sum_of (shape.Call f) rest = omega arith
sum_of (shape.CallIndirect n) rest = omega arith
sum_of shape.MemoryGrow rest = omega arith

-- an instruction and what follows it
pub first_and_rest : (i : Instr) (s : Shape) (rest : Expression) → ((e : Expression) → cons i e ≡ cons_shape s e) → nodes (cons i rest) ≡ size_of s + nodes rest
first_and_rest i s rest h = ap nodes (h rest) ∙ sum_of s rest
