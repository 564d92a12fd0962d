use Rattle.std.proofs.Common.{ap, ◌∙◌, subst}
use Rattle.ante_pack.specs.Names.{name_text}
use Rattle.ante_pack.specs.declared.names.Name.{Name}
use Rattle.ante_sysapi.specs.Answers.{Prints}
use Rattle.ante_sysapi.proofs.console.printn.Goals as goal

pub returns-clause-answer : goal.returns-clause-answer
returns-clause-answer c =
    let text = c.split_at.ensures.front ∙ c.name_text-length.ensures.text ∙ ap (λ (n : Name). name_text n.0) c.name_arg.ensures in
    subst (λ b. Prints b c.print.result c.args.run.now c.print.new.run) text c.print.ensures.answer
