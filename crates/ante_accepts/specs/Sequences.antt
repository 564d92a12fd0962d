-- The validation algorithm (WebAssembly Core 1.0, appendix A.3) over what is known of a stack of operands: the kinds on top, some of them unknown,
-- and whether anything may lie below.
use Rattle.std.specs.Prelude.{ℕ, Bool, true, false, ◌&&◌, List, [], ◌∷◌, Option, None, Some, slice_get, if◌then◌else◌}
use Rattle.std.specs.List.{list_all}
use Rattle.std.specs.Option.{option_and_then}
use Rattle.ante_wtree.specs.declared.instructions.ValueKind.{ValueKind}
use Rattle.ante_wtree.specs.declared.instructions.ValueKind.TheVariants.{I32}
use Rattle.ante_wtree.specs.declared.modules.FuncType.{FuncType}
use Rattle.ante_wtree.specs.Types.{kinds_of, same_kind}
use Rattle.ante_wtree.specs.Expressions.{Expression, Over, Plain, Block, Loop, If, Br, BrIf, BrTable, Return, Call, CallIndirect, MemoryGrow}
use Rattle.ante_wvalid.specs.declared.operand_types.OperandTypes.{OperandTypes}
use Rattle.ante_wvalid.specs.Typing.{Context, InstrType, Fixed, Drops, Selects, Unbounded, Untyped, Operands, inside, type_of, function_type}

abbrev pub only_if : {A : Type 0} → Bool → Option A → Option A
only_if b found = if b then found else None

-- ---- kinds

abbrev pub same_label : Option ValueKind → Option ValueKind → Bool
same_label None None = true
same_label None (Some k) = false
same_label (Some j) None = false
same_label (Some j) (Some k) = same_kind j k

abbrev pub is_label : Option ValueKind → Option (Option ValueKind) → Bool
is_label label None = false
is_label label (Some found) = same_label found label

-- the kind may be the known one
abbrev pub may_be : (known : Option ValueKind) → ValueKind → Bool
may_be None kind = true
may_be (Some known) kind = same_kind kind known

-- two kinds that must agree, as what they both are
abbrev pub joined : (one two : Option ValueKind) → Option (Option ValueKind)
joined None two = Some two
joined (Some j) None = Some (Some j)
joined (Some j) (Some k) = only_if (same_kind j k) (Some (Some j))

-- ---- the stack

abbrev pub known : List (Option ValueKind) → Bool → OperandTypes
known kinds bottomless = record { kinds = kinds; bottomless = bottomless }

abbrev pub no_operands : OperandTypes
no_operands = known [] false

-- what stands after an instruction that doesn't go on
abbrev pub anything : OperandTypes
anything = known [] true

-- the topmost operand, and what is below
abbrev pub popped_of : List (Option ValueKind) → Bool → Option (Option ValueKind × OperandTypes)
popped_of [] true = Some (None, anything)
popped_of [] false = None
popped_of (k ∷ kinds) bottomless = Some (k, known kinds bottomless)

abbrev pub popped : OperandTypes → Option (Option ValueKind × OperandTypes)
popped o = popped_of o.kinds o.bottomless

abbrev pub pop_kind : ValueKind → OperandTypes → Option OperandTypes
pop_kind kind o = option_and_then (λ p. only_if (may_be p.0 kind) (Some p.1)) (popped o)

-- the last kind is topmost
abbrev pub pop_all : List ValueKind → OperandTypes → Option OperandTypes
pop_all [] o = Some o
pop_all (k ∷ kinds) o = option_and_then (pop_kind k) (pop_all kinds o)

abbrev pub push : Option ValueKind → OperandTypes → OperandTypes
push k o = known (k ∷ o.kinds) o.bottomless

abbrev pub push_all : List ValueKind → OperandTypes → OperandTypes
push_all [] o = o
push_all (k ∷ kinds) o = push_all kinds (push (Some k) o)

-- the stack may be this one
abbrev pub admits_of : List (Option ValueKind) → Bool → Operands → Bool
admits_of [] true stack = true
admits_of [] false [] = true
admits_of [] false (kind ∷ stack) = false
admits_of (k ∷ kinds) bottomless [] = false
admits_of (k ∷ kinds) bottomless (kind ∷ stack) = may_be k kind && admits_of kinds bottomless stack

abbrev pub admits : OperandTypes → Operands → Bool
admits o stack = admits_of o.kinds o.bottomless stack

-- ---- instructions

abbrev pub turn : (takes gives : List ValueKind) → OperandTypes → Option OperandTypes
turn takes gives o = option_and_then (λ rest. Some (push_all gives rest)) (pop_all takes o)

abbrev pub drop_any : OperandTypes → Option OperandTypes
drop_any o = option_and_then (λ p. Some p.1) (popped o)

-- two operands of one kind become one of them
abbrev pub select_two : OperandTypes → Option OperandTypes
select_two o = option_and_then (λ two. option_and_then (λ one. option_and_then (λ both. Some (push both one.1)) (joined one.0 two.0)) (popped two.1)) (popped o)

abbrev pub select : OperandTypes → Option OperandTypes
select o = option_and_then select_two (pop_kind I32 o)

abbrev pub move : InstrType → OperandTypes → Option OperandTypes
move (Fixed takes gives) o = turn takes gives o
move Drops o = drop_any o
move Selects o = select o
move Unbounded o = Some anything
move Untyped o = None

abbrev pub leave : Option ValueKind → OperandTypes → Option OperandTypes
leave label o = option_and_then (λ rest. Some anything) (pop_all (kinds_of label) o)

abbrev pub leave_if : Option ValueKind → OperandTypes → Option OperandTypes
leave_if label o = option_and_then (turn (kinds_of label) (kinds_of label)) (pop_kind I32 o)

abbrev pub leave_among : (labels : List (Option ValueKind)) → List ℕ → Option ValueKind → OperandTypes → Option OperandTypes
leave_among labels targets label o = only_if (list_all (λ k. is_label label (slice_get labels k)) targets) (option_and_then (leave label) (pop_kind I32 o))

abbrev pub call : FuncType → OperandTypes → Option OperandTypes
call t o = turn t.params t.results o

abbrev pub call_at : FuncType → OperandTypes → Option OperandTypes
call_at t o = option_and_then (call t) (pop_kind I32 o)

-- ---- sequences

-- the stack, found as it is at the end, may be this one
abbrev pub ends_with : Operands → Option OperandTypes → Bool
ends_with stack None = false
ends_with stack (Some o) = admits o stack

-- what is known after an expression, where it can be typed
abbrev pub after : Context → Expression → OperandTypes → Option OperandTypes
after c Over o = Some o
after c (Plain i rest) o = option_and_then (after c rest) (move (type_of c i) o)
after c (Block kind body rest) o =
    option_and_then (after c rest) (only_if (ends_with (kinds_of kind) (after (inside kind c) body no_operands)) (Some (push_all (kinds_of kind) o)))
after c (Loop kind body rest) o =
    option_and_then (after c rest) (only_if (ends_with (kinds_of kind) (after (inside None c) body no_operands)) (Some (push_all (kinds_of kind) o)))
after c (If kind one two rest) o =
    option_and_then (after c rest)
    (only_if (ends_with (kinds_of kind) (after (inside kind c) one no_operands) && ends_with (kinds_of kind) (after (inside kind c) two no_operands))
    (turn (I32 ∷ []) (kinds_of kind) o))
after c (Br n rest) o = option_and_then (after c rest) (option_and_then (λ label. leave label o) (slice_get c.labels n))
after c (BrIf n rest) o = option_and_then (after c rest) (option_and_then (λ label. leave_if label o) (slice_get c.labels n))
after c (BrTable targets n rest) o = option_and_then (after c rest) (option_and_then (λ label. leave_among c.labels targets label o) (slice_get c.labels n))
after c (Return rest) o = option_and_then (after c rest) (leave c.result o)
after c (Call f rest) o = option_and_then (after c rest) (option_and_then (λ t. call t o) (function_type c f))
after c (CallIndirect kind rest) o = option_and_then (after c rest) (only_if c.table (option_and_then (λ t. call_at t o) (slice_get c.types kind)))
after c (MemoryGrow rest) o = option_and_then (after c rest) (only_if c.memory (turn (I32 ∷ []) (I32 ∷ []) o))

-- the expression, begun with no operands, leaves these
abbrev pub is_typed : Context → Expression → Operands → Bool
is_typed c e stack = ends_with stack (after c e no_operands)
