-- What plain instructions see of the values, globals and memory of a run, and what they make of them.
use Rattle.std.specs.Prelude.{◌≡◌, ℕ, ◌≤◌, true, List, length, Option, None, Some}
use Rattle.ante_wmem.specs.Linear.{LinearMemory}
use Rattle.ante_wtree.specs.declared.instructions.Instr.{Instr}
use Rattle.ante_wtree.specs.declared.instructions.PlainInstr.{PlainInstr}
use Rattle.ante_wtree.specs.Expressions.{Expression, cons}
use Rattle.ante_wtree.specs.Expressions.{Over, Plain, Block, Loop, If, Br, BrIf, BrTable, Return, Call, CallIndirect, MemoryGrow}
use Rattle.ante_wvalues.specs.declared.data.Data.{Data}
use Rattle.ante_wvalues.specs.declared.instructions.Tried.{Tried}
use Rattle.ante_wvalues.specs.declared.instructions.Tried.TheVariants as tried
use Rattle.ante_wmeaning.specs.PlainInstructions.{Values, Effect, Next, Traps, operands, finds, done}
use Rattle.ante_wvalues.specs.FrameValues.{FrameValues}

-- what a function's instructions see of these parts
abbrev pub values_in : FrameValues → List ℕ → LinearMemory → Values
values_in v globals memory = record { locals = v.locals; stack = v.stack; globals = globals; memory = memory }

abbrev pub values_of : Data → Values
values_of d = values_in d.values d.globals.items d.memory

-- An instruction that was done leaves what it gives. One that traps leaves the memory.
abbrev pub Tries : Effect → Tried → (old new : Values) → Type 0
Tries e tried.Done old new = e ≡ Next new
Tries e (tried.Trap kind) old new = (e ≡ Traps kind) × (new.memory ≡ old.memory)
Tries e tried.Untouched old new = new ≡ old

-- the plain instruction that a sequence begins with
abbrev pub plain_at : Expression → Option PlainInstr
plain_at (Plain op rest) = Some op
plain_at Over = None
plain_at (Block kind body rest) = None
plain_at (Loop kind body rest) = None
plain_at (If kind one two rest) = None
plain_at (Br n rest) = None
plain_at (BrIf n rest) = None
plain_at (BrTable ns n rest) = None
plain_at (Return rest) = None
plain_at (Call f rest) = None
plain_at (CallIndirect t rest) = None
plain_at (MemoryGrow rest) = None

abbrev pub plain_of : Instr → Option PlainInstr
plain_of i = plain_at (cons i Over)

-- it finds its operands, and the local or global that it names
abbrev pub Ready : Option PlainInstr → Values → Type 0
Ready (Some op) v = (operands op ≤ length v.stack) × (finds op v ≡ true)
Ready None v = Unit {0}

-- no instruction but a plain one is done
abbrev pub TriesPlain : Option PlainInstr → Tried → (old new : Values) → Type 0
TriesPlain (Some op) t old new = Tries (done op old) t old new
TriesPlain None t old new = (t ≡ tried.Untouched) × (new ≡ old)
