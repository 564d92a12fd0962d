use Rattle.std.proofs.Common.{sym, ap, ◌∙◌, subst}
use Rattle.std.specs.Prelude.{decimal}
use Rattle.std.specs.Int.{w128, from_le_bytes}
use Rattle.std.specs.Option.{option_map}
use Rattle.ante_calls.specs.Calls.{bytes_from}
use Rattle.ante_calls.specs.Console.{prints_text}
use Rattle.ante_sysapi.specs.Answers.{Prints, view}
use Rattle.ante_sysapi.proofs.Paid.{read_shown}
use Rattle.ante_sysapi.proofs.console.printui128.Goals as goal

pub returns-clause-answer : goal.returns-clause-answer
returns-clause-answer c = λ left w.
    let m = c.args.memory.now in
    let digits = c.as_bytes.ensures.value ∙ c.format-digits.ensures.text ∙ ap decimal c.wide_of.ensures in
    read_shown (bytes_from 0 16 c.args.args.now m) c.in-Some.bytes.now (λ b v. prints_text (decimal (from_le_bytes w128 b)) v m) c.print.result
    (view w c.args.run.now) (view w c.print.new.run) m left (sym c.bytes_from.ensures.bytes ∙ ap (option_map (λ b. b.now)) c.in-Some.is)
    (subst (λ b. Prints b c.print.result c.args.run.now c.print.new.run) digits c.print.ensures.answer m left w)
