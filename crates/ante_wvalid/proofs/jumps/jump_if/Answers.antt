use Rattle.std.proofs.Common.{[], ◌∷◌, sym, false}
use Rattle.ante_wtree.specs.declared.instructions.ValueKind.TheVariants.{I32}
use Rattle.ante_wtree.specs.Types.{kinds_of}
use Rattle.ante_wvalid.specs.Typing.{Pops, Turns, Then}
use Rattle.ante_wvalid.proofs.Carrying.{later, turns_as, with_some, then_no, then_yes}
use Rattle.ante_wvalid.proofs.jumps.jump_if.Goals as goal

pub returns-then-not-pop_kind : goal.returns-then-not-pop_kind
returns-then-not-pop_kind c = with_some _ c.in-Some.label (λ label. Then (Pops (I32 ∷ [])) (Turns (kinds_of label) (kinds_of label))) false c.args.operands.now c.pop_kind.new.self (sym c.in-Some.ensures)
    (then_no (Pops (I32 ∷ [])) _ c.pop_kind.result c.args.operands.now c.pop_kind.new.self c.pop_kind.new.self c.pop_kind.ensures c.if-not-pop_kind.true)

pub returns : goal.returns
returns c = later c.turn.result _ _ (λ y h. with_some _ c.in-Some.label (λ label. Then (Pops (I32 ∷ [])) (Turns (kinds_of label) (kinds_of label))) y c.args.operands.now _ (sym c.in-Some.ensures)
    (then_yes (Pops (I32 ∷ [])) (Turns (kinds_of c.in-Some.label) (kinds_of c.in-Some.label)) c.pop_kind.result y c.args.operands.now c.pop_kind.new.self _ c.pop_kind.ensures c.if-not-pop_kind.false
    (turns_as c.kinds-wanted.result.now c.kinds-wanted.result.now (kinds_of c.in-Some.label) (kinds_of c.in-Some.label) y c.pop_kind.new.self _ c.kinds-wanted.ensures c.kinds-wanted.ensures h))) c.turn.ensures
