use Rattle.std.proofs.Common.{sym, ap, ◌∙◌}
use Rattle.std.specs.Option.{option_map}
use Rattle.ante_calls.specs.Calls.{text}
use Rattle.ante_calls.specs.Console.{prints_text}
use Rattle.ante_sysapi.specs.Answers.{view}
use Rattle.ante_sysapi.proofs.Paid.{paid_shown}
use Rattle.ante_sysapi.proofs.console.prints.Goals as goal

pub returns-clause-answer : goal.returns-clause-answer
returns-clause-answer c = λ w.
    let m = c.args.memory.now in
    paid_shown (text 0 c.args.args.now m) c.in-Some.bytes.now c.args.left.now c.pay.new.left (λ b v. prints_text b v m) c.print.result
    (view w c.args.run.now) (view w c.print.new.run) m (sym c.text.ensures ∙ ap (option_map (λ b. b.now)) c.in-Some.is)
    c.if-not-pay.ensures.paid c.if-not-pay.ensures.left (c.print.ensures.answer m c.pay.new.left w)
