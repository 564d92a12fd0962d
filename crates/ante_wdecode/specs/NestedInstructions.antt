-- What is read of instructions with bodies, at the front of some bytes.
use Rattle.std.specs.Prelude.{ℕ, zero, suc, ◌+◌, Bool, true, false, List, length, Option, Result, Ok, Err, if◌then◌else◌}
use Rattle.ante_wtree.specs.declared.instructions.ValueKind.{ValueKind}
use Rattle.ante_wtree.specs.Expressions.{Expression, cons, Over, Block, Loop, If}
use Rattle.ante_wdecode.specs.declared.opcodes.Opcode.{Opcode}
use Rattle.ante_wdecode.specs.declared.opcodes.Opcode.TheVariants as opcode
use Rattle.ante_wdecode.specs.declared.fault.DecodeKind.TheVariants as kind
use Rattle.ante_wdecode.specs.declared.nested.Part.{Part}
use Rattle.ante_wdecode.specs.declared.nested.Part.TheVariants as part
use Rattle.ante_pack.specs.Forms.{◌>>=◌}
use Rattle.ante_wdecode.specs.Rules.{Fault, Ended, At, Read, Rule}
use Rattle.ante_wdecode.specs.Opcodes.{an_opcode}
use Rattle.ante_wdecode.specs.Instructions.{completes, block_type, IsExpression}

-- a sequence, whether `else` ended it and not `end`, and the bytes after that
abbrev pub Sequence : Type 0
Sequence = Expression × Bool × List ℕ

pub data Item : Type 0 where
  Ends : (by_else : Bool) → Item
  One : (Expression → Expression) → Item

abbrev pub closed : Sequence → Read Expression
closed s = if s.1 then Err (At (length s.2 + 1) kind.Form) else Ok (s.0, s.2)

abbrev pub body_at : (List ℕ → Result Sequence Fault) → List ℕ → Read Expression
body_at inner bytes = inner bytes >>= closed

abbrev pub block_of : (looped : Bool) → Option ValueKind → Expression → Expression → Expression
block_of true = Loop
block_of false = Block

abbrev pub block_at : (Option ValueKind → Expression → Expression → Expression) → (List ℕ → Result Sequence Fault) → List ℕ → Read (Expression → Expression)
block_at make inner bytes = block_type.read bytes >>= λ k. body_at inner k.1 >>= λ b. Ok (make k.0 b.0, b.1)

abbrev pub second_at : (List ℕ → Result Sequence Fault) → Option ValueKind → Sequence → Read (Expression → Expression)
second_at inner kind s = if s.1 then (body_at inner s.2 >>= λ b. Ok (If kind s.0 b.0, b.1)) else Ok (If kind s.0 Over, s.2)

abbrev pub if_at : (List ℕ → Result Sequence Fault) → List ℕ → Read (Expression → Expression)
if_at inner bytes = block_type.read bytes >>= λ k. inner k.1 >>= second_at inner k.0

-- what is read one block deeper; bytes are those after the opcode
abbrev pub deeper : {A : Type 0} → (depth : ℕ) → List ℕ → Result A Fault → Result A Fault
deeper zero bytes read = Err (At (length bytes + 1) kind.Limit)
deeper (suc depth) bytes read = read

abbrev pub one : (Expression → Expression) × List ℕ → Read Item
one x = Ok (One x.0, x.1)

abbrev pub led_at : (depth : ℕ) → (List ℕ → Result Sequence Fault) → Opcode → List ℕ → Read Item
led_at depth inner opcode.Else bytes = Ok (Ends true, bytes)
led_at depth inner opcode.End bytes = Ok (Ends false, bytes)
led_at depth inner opcode.Block bytes = deeper depth bytes (block_at (block_of false) inner bytes) >>= one
led_at depth inner opcode.Loop bytes = deeper depth bytes (block_at (block_of true) inner bytes) >>= one
led_at depth inner opcode.If bytes = deeper depth bytes (if_at inner bytes) >>= one
led_at depth inner l bytes = (completes l).read bytes >>= one

abbrev pub item_at : (depth : ℕ) → (List ℕ → Result Sequence Fault) → List ℕ → Read Item
item_at depth inner bytes = an_opcode.read bytes >>= λ l. led_at depth inner l.0 l.1

abbrev pub go_on : (List ℕ → Result Sequence Fault) → Item × List ℕ → Result Sequence Fault
go_on more (Ends by_else, rest) = Ok (Over, by_else, rest)
go_on more (One make, rest) = more rest >>= λ s. Ok (make s.0, s.1, s.2)

abbrev pub inside : (ℕ → List ℕ → Result Sequence Fault) → ℕ → List ℕ → Result Sequence Fault
inside read zero bytes = Err (Ended 0)
inside read (suc depth) bytes = read depth bytes

-- The first number bounds the instructions that are read.
abbrev pub seq_at : ℕ → (depth : ℕ) → List ℕ → Result Sequence Fault
seq_at zero depth bytes = Err (Ended 0)
seq_at (suc n) depth bytes = item_at depth (inside (seq_at n) depth) bytes >>= go_on (seq_at n depth)

-- a block or a loop, and an if, whose bodies are one deeper
abbrev pub block_within : (looped : Bool) → ℕ → (depth : ℕ) → List ℕ → Read (Expression → Expression)
block_within looped n depth bytes = deeper depth bytes (block_at (block_of looped) (inside (seq_at n) depth) bytes)

abbrev pub if_within : ℕ → (depth : ℕ) → List ℕ → Read (Expression → Expression)
if_within n depth bytes = deeper depth bytes (if_at (inside (seq_at n) depth) bytes)

-- an expression in which blocks are nested so deep at most
abbrev pub expression : ℕ → Rule Expression
expression depth = record {
  Spells = IsExpression depth;
  read = λ bytes. body_at (seq_at (suc (length bytes)) depth) bytes;
}

abbrev pub item_of : Part → Item
item_of (part.Ends by_else) = Ends by_else
item_of (part.One instr) = One (cons instr)
