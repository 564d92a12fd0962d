use Rattle.std.proofs.Common.{◌≡◌, [], ◌∷◌, true, false, sym, slice_get}
use Rattle.ante_wtree.specs.declared.instructions.ValueKind.TheVariants.{I32}
use Rattle.ante_wvalid.specs.Typing.{Pops, Then, With, Calls}
use Rattle.ante_wvalid.proofs.Carrying.{later, turns_as, with_some, where_yes, then_no, then_yes}
use Rattle.ante_wvalid.proofs.jumps.call_by_table.Goals as goal

pub returns-then-not-pop_kind : goal.returns-then-not-pop_kind
returns-then-not-pop_kind c = where_yes (c.args.scope.now.table ≡ true) (With (slice_get c.args.scope.now.types.now c.args.number) (λ t. Then (Pops (I32 ∷ [])) (Calls t))) false c.args.operands.now c.pop_kind.new.self c.if-not-scope.false
    (with_some _ c.in-Some.callee.now (λ t. Then (Pops (I32 ∷ [])) (Calls t)) false c.args.operands.now c.pop_kind.new.self (sym c.in-Some.ensures)
    (then_no (Pops (I32 ∷ [])) (Calls c.in-Some.callee.now) c.pop_kind.result c.args.operands.now c.pop_kind.new.self c.pop_kind.new.self c.pop_kind.ensures c.if-not-pop_kind.true))

pub returns : goal.returns
returns c = later c.turn.result _ _ (λ y h. where_yes (c.args.scope.now.table ≡ true) (With (slice_get c.args.scope.now.types.now c.args.number) (λ t. Then (Pops (I32 ∷ [])) (Calls t))) y c.args.operands.now _ c.if-not-scope.false
    (with_some _ c.in-Some.callee.now (λ t. Then (Pops (I32 ∷ [])) (Calls t)) y c.args.operands.now _ (sym c.in-Some.ensures)
    (then_yes (Pops (I32 ∷ [])) (Calls c.in-Some.callee.now) c.pop_kind.result y c.args.operands.now c.pop_kind.new.self _ c.pop_kind.ensures c.if-not-pop_kind.false
    (turns_as c.as_slice.result.now c.as_slice-2.result.now c.in-Some.callee.now.params c.in-Some.callee.now.results y c.pop_kind.new.self _ c.as_slice.ensures c.as_slice-2.ensures h)))) c.turn.ensures
