use Rattle.std.proofs.Common.{◌≡◌, sym, subst, Bool}
use Rattle.ante_wvalid.specs.declared.operand_types.OperandTypes.{OperandTypes}
use Rattle.ante_wvalid.specs.declared.scope.Signature.{Signature}
use Rattle.ante_wvalid.specs.Typing.{InstrType, Moves, type_of}
use Rattle.ante_wvalid.specs.OperandStacks.{Carries, context_in, type_in}
use Rattle.ante_wvalid.proofs.Carrying.{later}
use Rattle.ante_wvalid.proofs.jumps.plain.Goals as goal

as_type : (found s : Signature) (t : InstrType) (y : Bool) (old new : OperandTypes) → type_in found ≡ t → found ≡ s → Carries (Moves (type_in s)) y old new → Carries (Moves t) y old new
as_type found s t y old new e is h = subst (λ x. Carries (Moves x) y old new) e (subst (λ x. Carries (Moves (type_in x)) y old new) (sym is) h)

pub returns-in-Fixed : goal.returns-in-Fixed
returns-in-Fixed c = later c.turn.result _ _ (λ y h. λ labels. as_type c.signature.result _ (type_of (context_in c.args.scope.now labels) c.args.instr) y c.args.operands.now _ (c.signature.ensures labels) c.in-Fixed.is h) c.turn.ensures

pub returns-in-Drops : goal.returns-in-Drops
returns-in-Drops c = λ labels. as_type c.signature.result _ (type_of (context_in c.args.scope.now labels) c.args.instr) _ c.args.operands.now _ (c.signature.ensures labels) c.in-Drops.is c.drop_any.ensures

pub returns-in-Selects : goal.returns-in-Selects
returns-in-Selects c = later c.select.result _ _ (λ y h. λ labels. as_type c.signature.result _ (type_of (context_in c.args.scope.now labels) c.args.instr) y c.args.operands.now _ (c.signature.ensures labels) c.in-Selects.is h) c.select.ensures
