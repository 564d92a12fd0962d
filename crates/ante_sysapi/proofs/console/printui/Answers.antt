use Rattle.std.proofs.Common.{ap, ◌∙◌, subst}
use Rattle.std.specs.Prelude.{decimal}
use Rattle.ante_sysapi.specs.Answers.{Prints}
use Rattle.ante_sysapi.proofs.console.printui.Goals as goal

pub returns-clause-answer : goal.returns-clause-answer
returns-clause-answer c =
    let digits = c.as_bytes.ensures.value ∙ c.format-digits.ensures.text ∙ ap decimal c.arg.ensures in
    subst (λ b. Prints b c.print.result c.args.run.now c.print.new.run) digits c.print.ensures.answer
