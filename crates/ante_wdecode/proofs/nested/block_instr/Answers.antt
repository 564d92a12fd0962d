use Rattle.std.proofs.Common.{sym, ap, ◌∙◌}
use Rattle.ante_wtree.specs.Expressions.{Block, Loop, body_is, expression_of}
use Rattle.ante_wdecode.specs.NestedInstructions.{block_of}
use Rattle.ante_wdecode.proofs.nested.block_instr.Goals as goal

pub returns-then-looped : goal.returns-then-looped
returns-then-looped c = ap (λ b. Loop c.args.kind b) (body_is c.args.body) ∙ ap (λ looped. block_of looped c.args.kind (expression_of c.args.body.items)) (sym c.if-looped.true)

pub returns-else-looped : goal.returns-else-looped
returns-else-looped c = ap (λ b. Block c.args.kind b) (body_is c.args.body) ∙ ap (λ looped. block_of looped c.args.kind (expression_of c.args.body.items)) (sym c.if-looped.false)
