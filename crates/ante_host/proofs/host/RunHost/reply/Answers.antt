use Rattle.std.proofs.Common.{sym, ap, subst, ◌∙◌}
use Rattle.ante_execution.specs.Hosts.{is_send_inline}
use Rattle.ante_host.specs.Host.{Answers}
use Rattle.ante_host.proofs.Answered.{unsent_call, sent_call}
use Rattle.ante_host.proofs.host.RunHost.reply.Goals as goal

pub returns-then-is_send_inline-clause-answer : goal.returns-then-is_send_inline-clause-answer
returns-then-is_send_inline-clause-answer g c =
    let is = c.intrinsic_at-intrinsic.ensures in
    let made = c.make-answer in
    sent_call c.args.self.now c.args.args.now c.args.memory.now c.args.left.now c.args.function.0 made.new.self made.new.memory made.new.left made.result c.checked.result
    (sym is ∙ c.is_send_inline.ensures.same c.if-is_send_inline.true)
    (subst (λ i. Answers i c.args.args.now c.args.memory.now c.args.left.now made.result c.args.self.now made.new.self made.new.memory made.new.left) is made.ensures.answer)
    c.checked.ensures

pub returns-else-is_send_inline-clause-answer : goal.returns-else-is_send_inline-clause-answer
returns-else-is_send_inline-clause-answer g c =
    let is = c.intrinsic_at-intrinsic.ensures in
    let made = c.make-answer in
    unsent_call c.args.self.now c.args.args.now c.args.memory.now c.args.left.now c.args.function.0 made.new.self made.new.memory made.new.left made.result
    (ap is_send_inline (sym is) ∙ c.is_send_inline.ensures.other c.if-is_send_inline.false)
    (subst (λ i. Answers i c.args.args.now c.args.memory.now c.args.left.now made.result c.args.self.now made.new.self made.new.memory made.new.left) is made.ensures.answer)
