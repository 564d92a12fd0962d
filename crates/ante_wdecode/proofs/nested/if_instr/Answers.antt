use Rattle.std.proofs.Common.{ap, ◌∙◌}
use Rattle.ante_wtree.specs.Expressions.{If, row_code, body_is, expression_of}
use Rattle.ante_wtree.specs.declared.instructions.Instr.TheBlock.{hidden-the_row-Instr-0}
use Rattle.ante_wdecode.proofs.nested.if_instr.Goals as goal

pub returns : goal.returns
returns c = ap (λ b. If c.args.kind b (row_code (hidden-the_row-Instr-0 c.args.two))) (body_is c.args.one) ∙ ap (λ b. If c.args.kind (expression_of c.args.one.items) b) (body_is c.args.two)
