use Rattle.std.proofs.Common.{sym, ap, ◌∙◌, subst}
use Rattle.std.specs.Option.{option_map}
use Rattle.hex.specs.Hex.{encode_lower}
use Rattle.ante_calls.specs.Calls.{range}
use Rattle.ante_calls.specs.Console.{prints_text}
use Rattle.ante_sysapi.specs.Answers.{Prints, view}
use Rattle.ante_sysapi.proofs.Paid.{paid_shown}
use Rattle.ante_sysapi.proofs.console.printhex.Goals as goal

pub returns-clause-answer : goal.returns-clause-answer
returns-clause-answer c = λ w.
    let m = c.args.memory.now in
    let digits = c.as_bytes.ensures.value ∙ c.in-Ok.ensures in
    paid_shown (range 0 c.args.args.now m) c.in-Some.bytes.now c.args.left.now c.pay.new.left (λ b v. prints_text (encode_lower b) v m) c.print.result
    (view w c.args.run.now) (view w c.print.new.run) m (sym c.range.ensures.bytes ∙ ap (option_map (λ b. b.now)) c.in-Some.is)
    c.if-not-pay.ensures.paid c.if-not-pay.ensures.left
    (subst (λ b. Prints b c.print.result c.args.run.now c.print.new.run) digits c.print.ensures.answer m c.pay.new.left w)
