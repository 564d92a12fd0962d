-- What is known of a stack of operands stands for a set of stacks, and an instruction carries the one set to the other.
use Rattle.std.specs.Prelude.{◌≡◌, ℕ, Bool, true, false, List, [], ◌∷◌, ◌++◌, Option, None, Some, MatchOption, ◌↔◌}
use Rattle.ante_wtree.specs.declared.instructions.ValueKind.{ValueKind}
use Rattle.ante_wtree.specs.declared.instructions.ValueKind.TheVariants.{I32}
use Rattle.ante_wtree.specs.declared.instructions.PlainInstr.{PlainInstr}
use Rattle.ante_wtree.specs.declared.shape.Shape.{Shape}
use Rattle.ante_wtree.specs.declared.shape.Shape.TheVariants as shape
use Rattle.ante_wtree.specs.Expressions.{Expression, expression_of}
use Rattle.ante_wtree.specs.declared.modules.FuncType.{FuncType}
use Rattle.ante_wtree.specs.declared.modules.Import.{Import}
use Rattle.ante_wtree.specs.Types.{kinds_of}
use Rattle.ante_wvalid.specs.declared.imports.ImportRule.{ImportRule}
use Rattle.ante_wvalid.specs.declared.imports.ImportRule.TheVariants as import_rule
use Rattle.ante_wvalid.specs.Modules.{HoldsAt, IsFunction, IsKnown, HostType, HasHostType}
use Rattle.ante_wvalid.specs.declared.operand_types.OperandTypes.{OperandTypes}
use Rattle.ante_wvalid.specs.declared.scope.Scope.{Scope}
use Rattle.ante_wvalid.specs.declared.scope.Signature.{Signature}
use Rattle.ante_wvalid.specs.declared.scope.Signature.TheVariants as signature
use Rattle.ante_wvalid.specs.Typing.{Operands, Context, InstrType, Fixed, Drops, Selects, Unbounded, Untyped, Typed, Where, Pushes, Turns, Moves, Jumps, JumpsIf, JumpsAmong, Leaves, CallsNamed, CallsByTable, Grows, type_of, inside}

-- each from the other
pub record Same (A B : Type 0) : Type 0 where
  pub to : A → B
  pub from : B → A

abbrev pub MatchesKind : Option ValueKind → ValueKind → Type 0
MatchesKind None kind = Unit {0}
MatchesKind (Some known) kind = kind ≡ known

-- Below the known kinds there is nothing, or, where it is bottomless, anything.
abbrev pub Matches : List (Option ValueKind) → Bool → Operands → Type 0
Matches [] false stack = stack ≡ []
Matches [] true stack = Unit {0}
Matches (known ∷ more) bottomless [] = ⊥
Matches (known ∷ more) bottomless (kind ∷ stack) = MatchesKind known kind × Matches more bottomless stack

abbrev pub Admits : OperandTypes → Operands → Type 0
Admits k stack = Matches k.kinds k.bottomless stack

-- Yes: the new set holds exactly the stacks to which the step takes a stack of the old one. No: it takes none of them.
abbrev pub Carries : (Operands → Operands → Type 0) → Bool → OperandTypes → OperandTypes → Type 0
Carries step true old new = (after : Operands) → Same ((before : Operands) × Admits old before × step before after) (Admits new after)
Carries step false old new = (before after : Operands) → Admits old before → step before after → ⊥

-- two kinds that must agree, as what they both are, or nothing where they can't
abbrev pub Joins : (one two : Option ValueKind) → Option (Option ValueKind) → Type 0
Joins one two found = MatchOption found ((k : ValueKind) → MatchesKind one k → MatchesKind two k → ⊥)
    (λ both. (k : ValueKind) → Same (MatchesKind one k × MatchesKind two k) (MatchesKind both k))

-- the topmost operand as what is known of it, or nothing where there is none
abbrev pub Tops : (old : OperandTypes) → Option (Option ValueKind) → (new : OperandTypes) → Type 0
Tops old found new = MatchOption found ((k : ValueKind) (s : Operands) → Admits old (k ∷ s) → ⊥)
    (λ known. (k : ValueKind) (s : Operands) → Same (Admits old (k ∷ s)) (MatchesKind known k × Admits new s))

-- ---- what the code holds of a context and of an instruction's type

abbrev pub context_in : Scope → List (Option ValueKind) → Context
context_in s labels = record {
  types = s.types.now;
  functions = s.functions.now;
  table = s.table;
  memory = s.memory;
  globals = s.globals.now;
  locals = s.params.now ++ s.locals.now;
  labels = labels;
  result = s.result;
}

abbrev pub type_in : Signature → InstrType
type_in (signature.Fixed takes gives) = Fixed takes.now gives.now
type_in signature.Drops = Drops
type_in signature.Selects = Selects
type_in signature.Unbounded = Unbounded
type_in signature.Untyped = Untyped

-- a block or a loop with this label, and an if, where their bodies are typed
abbrev pub BlockTurns : Context → (label : Option ValueKind) → Expression → (kind : Option ValueKind) → Operands → Operands → Type 0
BlockTurns c label body kind = Where (Typed (inside label c) body [] (kinds_of kind)) (Pushes (kinds_of kind))

abbrev pub IfTurns : Context → (one two : Expression) → (kind : Option ValueKind) → Operands → Operands → Type 0
IfTurns c one two kind =
    Where (Typed (inside kind c) one [] (kinds_of kind) × Typed (inside kind c) two [] (kinds_of kind)) (Turns (I32 ∷ []) (kinds_of kind))

-- a plain instruction, whatever the labels around it
abbrev pub CarriesPlain : Scope → PlainInstr → Bool → OperandTypes → OperandTypes → Type 0
CarriesPlain s instr step old new = (labels : List (Option ValueKind)) → Carries (Moves (type_of (context_in s labels) instr)) step old new

-- what an instruction of this shape does
abbrev pub step_of : Context → Shape → Operands → Operands → Type 0
step_of c (shape.Plain i) = Moves (type_of c i)
step_of c (shape.Block kind body) = BlockTurns c kind (expression_of body.now) kind
step_of c (shape.Loop kind body) = BlockTurns c None (expression_of body.now) kind
step_of c (shape.If kind one two) = IfTurns c (expression_of one.now) (expression_of two.now) kind
step_of c (shape.Br n) = Jumps c n
step_of c (shape.BrIf n) = JumpsIf c n
step_of c (shape.BrTable targets n) = JumpsAmong c targets.now n
step_of c shape.Return = Leaves c.result
step_of c (shape.Call f) = CallsNamed c f
step_of c (shape.CallIndirect number) = CallsByTable c number
step_of c shape.MemoryGrow = Grows c

-- ---- imports

-- what a search for the type by the name has found
abbrev pub Tells : List ℕ → Option (List ValueKind × Option ValueKind) → Type 0
Tells name found = (params : List ValueKind) (gives : Option ValueKind) → (found ≡ Some (params, gives)) ↔ HostType name params gives

abbrev pub Meets : List FuncType → ImportRule → Import → Type 0
Meets types import_rule.Function i = IsFunction i
Meets types import_rule.Known i = IsKnown i
Meets types import_rule.HostType i = HasHostType types i

abbrev pub IsRefused : List FuncType → ImportRule → List Import → ℕ → Type 0
IsRefused types rule imports at = HoldsAt (λ i. Meets types rule i → ⊥) imports at
