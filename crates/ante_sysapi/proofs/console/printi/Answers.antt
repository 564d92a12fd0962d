use Rattle.std.proofs.Common.{◌≡◌, ap, ◌∙◌, subst, rules, w64, of_z, to_z}
use Rattle.std.specs.Fmt.{signed_decimal}
use Rattle.ante_sysapi.specs.Answers.{Prints}
use Rattle.ante_sysapi.proofs.console.printi.Goals as goal

pub returns-clause-answer : goal.returns-clause-answer
returns-clause-answer c =
    let same : to_z w64 (of_z w64 c.cast_signed.result) ≡ to_z w64 c.arg.result = search rules in
    let digits = c.as_bytes.ensures.value ∙ c.format-digits.ensures.text ∙ ap signed_decimal same ∙ ap (λ n. signed_decimal (to_z w64 n)) c.arg.ensures in
    subst (λ b. Prints b c.print.result c.args.run.now c.print.new.run) digits c.print.ensures.answer
