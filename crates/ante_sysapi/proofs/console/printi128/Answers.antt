use Rattle.std.proofs.Common.{◌≡◌, sym, ap, ◌∙◌, subst, rules, of_z, to_z}
use Rattle.std.specs.Fmt.{signed_decimal}
use Rattle.std.specs.Int.{w128, cast_signed, from_le_bytes}
use Rattle.std.specs.Option.{option_map}
use Rattle.ante_calls.specs.Calls.{bytes_from}
use Rattle.ante_calls.specs.Console.{prints_text}
use Rattle.ante_sysapi.specs.Answers.{Prints, view}
use Rattle.ante_sysapi.proofs.Paid.{read_shown}
use Rattle.ante_sysapi.proofs.console.printi128.Goals as goal

pub returns-clause-answer : goal.returns-clause-answer
returns-clause-answer c = λ left w.
    let m = c.args.memory.now in
    let same : to_z w128 (of_z w128 c.cast_signed.result) ≡ to_z w128 c.wide_of.result = search rules in
    let digits = c.as_bytes.ensures.value ∙ c.format-digits.ensures.text ∙ ap signed_decimal same ∙ ap (λ n. signed_decimal (to_z w128 n)) c.wide_of.ensures in
    read_shown (bytes_from 0 16 c.args.args.now m) c.in-Some.bytes.now (λ b v. prints_text (signed_decimal (cast_signed w128 (from_le_bytes w128 b))) v m) c.print.result
    (view w c.args.run.now) (view w c.print.new.run) m left (sym c.bytes_from.ensures.bytes ∙ ap (option_map (λ b. b.now)) c.in-Some.is)
    (subst (λ b. Prints b c.print.result c.args.run.now c.print.new.run) digits c.print.ensures.answer m left w)
