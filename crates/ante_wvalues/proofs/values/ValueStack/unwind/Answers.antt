use Rattle.std.proofs.Common.{◌≡◌, ◌+◌, ◌≤◌, length, take, ap, ◌∙◌, Option, None, Some, arith, false}
use Rattle.ante_wvalues.proofs.Regions.{view, unwound_view}
use Rattle.ante_wvalues.proofs.values.ValueStack.unwind.Goals as goal
use Rattle.ante_wtree.specs.declared.instructions.ValueKind.{ValueKind}
use Rattle.std.specs.Option.{is_none}
use Rattle.ante_wmeaning.specs.Arities.{arity}
use Rattle.ante_wmeaning.specs.Execution.{unwound}

some_kind : (kind : Option ValueKind) (P : Option ValueKind → Type 0) → is_none kind ≡ false → ((k : ValueKind) → P (Some k)) → P kind
some_kind None P e h = cc
some_kind (Some k) P e h = h k

pub returns : goal.returns
returns c =
    some_kind c.args.kind
    (λ kind. c.args.height + arity kind ≤ length c.args.self.now.stack →
    view c.truncate.new.self.items c.self.inside.base c.self.inside.floor ≡ record { below = c.args.self.now.below; locals = c.args.self.now.locals; stack = unwound kind c.args.height c.args.self.now.stack })
    (grind (arith, c.is_none.ensures, c.if-is_none.false, c.if-is_none.ensures))
    (λ k le. unwound_view c.self.inside.items.items c.self.inside.base c.self.inside.floor c.args.self.now c.self.view_is c.self.invariant.0 c.self.invariant.1 c.truncate.new.self.items k c.args.height c.top-answer.result (c.truncate.ensures.items ∙ ap (take (c.self.inside.floor + c.args.height + 1)) c.set.ensures.items) (omega (arith, le)) c.top-answer.ensures)
    c.requires
