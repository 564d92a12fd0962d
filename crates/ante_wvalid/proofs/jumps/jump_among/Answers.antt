use Rattle.std.proofs.Common.{◌≡◌, [], ◌∷◌, Some, All, sym, false, slice_get}
use Rattle.ante_wtree.specs.declared.instructions.ValueKind.TheVariants.{I32}
use Rattle.ante_wvalid.specs.Typing.{Pops, Then, Where, Leaves}
use Rattle.ante_wvalid.proofs.Carrying.{with_some, where_yes, then_no, then_yes}
use Rattle.ante_wvalid.proofs.jumps.jump_among.Goals as goal

pub returns-then-not-pop_kind : goal.returns-then-not-pop_kind
returns-then-not-pop_kind c = with_some _ c.in-Some.label (λ label. Where (All (λ k. slice_get c.args.labels.now k ≡ Some label) c.args.targets.now) (Then (Pops (I32 ∷ [])) (Leaves label))) false c.args.operands.now c.pop_kind.new.self (sym c.in-Some.ensures)
    (where_yes (All (λ k. slice_get c.args.labels.now k ≡ Some c.in-Some.label) c.args.targets.now) (Then (Pops (I32 ∷ [])) (Leaves c.in-Some.label)) false c.args.operands.now c.pop_kind.new.self (c.agree.ensures.0 c.if-not-agree.false)
    (then_no (Pops (I32 ∷ [])) (Leaves c.in-Some.label) c.pop_kind.result c.args.operands.now c.pop_kind.new.self c.pop_kind.new.self c.pop_kind.ensures c.if-not-pop_kind.true))

pub returns : goal.returns
returns c = with_some _ c.in-Some.label (λ label. Where (All (λ k. slice_get c.args.labels.now k ≡ Some label) c.args.targets.now) (Then (Pops (I32 ∷ [])) (Leaves label))) c.leave.result c.args.operands.now _ (sym c.in-Some.ensures)
    (where_yes (All (λ k. slice_get c.args.labels.now k ≡ Some c.in-Some.label) c.args.targets.now) (Then (Pops (I32 ∷ [])) (Leaves c.in-Some.label)) c.leave.result c.args.operands.now _ (c.agree.ensures.0 c.if-not-agree.false)
    (then_yes (Pops (I32 ∷ [])) (Leaves c.in-Some.label) c.pop_kind.result c.leave.result c.args.operands.now c.pop_kind.new.self _ c.pop_kind.ensures c.if-not-pop_kind.false c.leave.ensures))
