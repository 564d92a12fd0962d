-- What is known after an expression is what its typing says, so that its typing is decided.
use Rattle.std.proofs.Common.{◌≡◌, ◌&&◌, true, [], ◌∷◌, Option, None, Some, slice_get, refl, subst}
use Rattle.std.specs.Bool.{Decides}
use Rattle.std.specs.Option.{option_and_then}
use Rattle.std.proofs.lemmas.Bool.Decides.{Decides-and}
use Rattle.ante_wtree.specs.declared.instructions.ValueKind.TheVariants.{I32}
use Rattle.ante_wtree.specs.Expressions.{Expression, Over, Plain, Block, Loop, If, Br, BrIf, BrTable, Return, Call, CallIndirect, MemoryGrow}
use Rattle.ante_wtree.specs.Types.{kinds_of}
use Rattle.ante_wvalid.specs.declared.operand_types.OperandTypes.{OperandTypes}
use Rattle.ante_wvalid.specs.Typing.{Context, Operands, Typed, Where, With, Pushes, Turns, Moves, Jumps, JumpsIf, JumpsAmong, Leaves, LeavesIf, LeavesAmong, Calls, CallsAt, CallsNamed, CallsByTable, Grows, inside, type_of, function_type}
use Rattle.ante_accepts.specs.Sequences.{after, call, call_at, ends_with, is_typed, leave, leave_among, leave_if, move, no_operands, only_if, push_all, turn}
use Rattle.ante_accepts.proofs.Stacks.{Carried, admits_decides, calls_at, leaves, leaves_among, leaves_if, moves, pushes_all, stays, then_carried, turns, where_carried, with_carried}

decided_by : (c : Context) (e : Expression) (stack : Operands) → ((o : OperandTypes) → Carried (Typed c e) o (after c e o)) → Decides (is_typed c e stack) (Typed c e [] stack)
decided_by c e stack h = by (after c e no_operands) (h no_operands)
  where
    by : (f : Option OperandTypes) → Carried (Typed c e) no_operands f → Decides (ends_with stack f) (Typed c e [] stack)
    by None k = (λ t. cc, λ t. absurd (k [] stack refl t))
    by (Some new) k = let d = admits_decides new.kinds new.bottomless stack in (
      λ t. let q = (k stack).from (d.0 t) in subst (λ s. Typed c e s stack) q.1 q.2,
      λ t. d.1 ((k stack).to ([], refl, t)),
    )

pub carried : (e : Expression) (c : Context) (o : OperandTypes) → Carried (Typed c e) o (after c e o)
carried Over c o = stays o
carried (Plain i rest) c o = then_carried (Moves (type_of c i)) (Typed c rest) o (move (type_of c i) o) (after c rest) (moves (type_of c i) o) (carried rest c)
carried (Block kind body rest) c o =
    then_carried (Where (Typed (inside kind c) body [] (kinds_of kind)) (Pushes (kinds_of kind))) (Typed c rest) o
    (only_if (is_typed (inside kind c) body (kinds_of kind)) (Some (push_all (kinds_of kind) o))) (after c rest)
    (where_carried (is_typed (inside kind c) body (kinds_of kind)) (Typed (inside kind c) body [] (kinds_of kind)) (decided_by (inside kind c) body (kinds_of kind) (carried body (inside kind c)))
    (Pushes (kinds_of kind)) o (Some (push_all (kinds_of kind) o)) (pushes_all (kinds_of kind) o))
    (carried rest c)
carried (Loop kind body rest) c o =
    then_carried (Where (Typed (inside None c) body [] (kinds_of kind)) (Pushes (kinds_of kind))) (Typed c rest) o
    (only_if (is_typed (inside None c) body (kinds_of kind)) (Some (push_all (kinds_of kind) o))) (after c rest)
    (where_carried (is_typed (inside None c) body (kinds_of kind)) (Typed (inside None c) body [] (kinds_of kind)) (decided_by (inside None c) body (kinds_of kind) (carried body (inside None c)))
    (Pushes (kinds_of kind)) o (Some (push_all (kinds_of kind) o)) (pushes_all (kinds_of kind) o))
    (carried rest c)
carried (If kind one two rest) c o =
    let first = is_typed (inside kind c) one (kinds_of kind) in
    let second = is_typed (inside kind c) two (kinds_of kind) in
    then_carried (Where (Typed (inside kind c) one [] (kinds_of kind) × Typed (inside kind c) two [] (kinds_of kind)) (Turns (I32 ∷ []) (kinds_of kind))) (Typed c rest) o
    (only_if (first && second) (turn (I32 ∷ []) (kinds_of kind) o)) (after c rest)
    (where_carried (first && second) (Typed (inside kind c) one [] (kinds_of kind) × Typed (inside kind c) two [] (kinds_of kind))
    (Decides-and first second (decided_by (inside kind c) one (kinds_of kind) (carried one (inside kind c))) (decided_by (inside kind c) two (kinds_of kind) (carried two (inside kind c))))
    (Turns (I32 ∷ []) (kinds_of kind)) o (turn (I32 ∷ []) (kinds_of kind) o) (turns (I32 ∷ []) (kinds_of kind) o))
    (carried rest c)
carried (Br n rest) c o =
    then_carried (Jumps c n) (Typed c rest) o (option_and_then (λ label. leave label o) (slice_get c.labels n)) (after c rest)
    (with_carried (slice_get c.labels n) Leaves o (λ label. leave label o) (λ label. leaves label o)) (carried rest c)
carried (BrIf n rest) c o =
    then_carried (JumpsIf c n) (Typed c rest) o (option_and_then (λ label. leave_if label o) (slice_get c.labels n)) (after c rest)
    (with_carried (slice_get c.labels n) LeavesIf o (λ label. leave_if label o) (λ label. leaves_if label o)) (carried rest c)
carried (BrTable targets n rest) c o =
    then_carried (JumpsAmong c targets n) (Typed c rest) o (option_and_then (λ label. leave_among c.labels targets label o) (slice_get c.labels n)) (after c rest)
    (with_carried (slice_get c.labels n) (LeavesAmong c.labels targets) o (λ label. leave_among c.labels targets label o) (λ label. leaves_among c.labels targets label o)) (carried rest c)
carried (Return rest) c o = then_carried (Leaves c.result) (Typed c rest) o (leave c.result o) (after c rest) (leaves c.result o) (carried rest c)
carried (Call f rest) c o =
    then_carried (CallsNamed c f) (Typed c rest) o (option_and_then (λ t. call t o) (function_type c f)) (after c rest)
    (with_carried (function_type c f) Calls o (λ t. call t o) (λ t. turns t.params t.results o)) (carried rest c)
carried (CallIndirect kind rest) c o =
    then_carried (CallsByTable c kind) (Typed c rest) o (only_if c.table (option_and_then (λ t. call_at t o) (slice_get c.types kind))) (after c rest)
    (where_carried c.table (c.table ≡ true) (λ t. t, λ e. e) (With (slice_get c.types kind) CallsAt) o (option_and_then (λ t. call_at t o) (slice_get c.types kind))
    (with_carried (slice_get c.types kind) CallsAt o (λ t. call_at t o) (λ t. calls_at t o))) (carried rest c)
carried (MemoryGrow rest) c o =
    then_carried (Grows c) (Typed c rest) o (only_if c.memory (turn (I32 ∷ []) (I32 ∷ []) o)) (after c rest)
    (where_carried c.memory (c.memory ≡ true) (λ t. t, λ e. e) (Turns (I32 ∷ []) (I32 ∷ [])) o (turn (I32 ∷ []) (I32 ∷ []) o) (turns (I32 ∷ []) (I32 ∷ []) o)) (carried rest c)

pub typing_decided : (c : Context) (e : Expression) (stack : Operands) → Decides (is_typed c e stack) (Typed c e [] stack)
typing_decided c e stack = decided_by c e stack (carried e c)
