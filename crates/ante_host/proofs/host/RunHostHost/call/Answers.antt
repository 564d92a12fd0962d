use Rattle.ante_host.proofs.Answered.{stays, weaker}
use Rattle.ante_host.proofs.host.RunHostHost.call.Goals as goal

pub returns-clause-answer : goal.returns-clause-answer
returns-clause-answer g c = weaker c.args.self.now c.args.args.now c.args.memory.now c.args.left.now c.args.function.0
    c.reply.new.self c.reply.new.memory c.reply.new.left c.reply.result c.reply.ensures.answer

pub returns-clause-after : goal.returns-clause-after
returns-clause-after g c = stays c.args.self.now c.args.args.now c.args.memory.now c.args.left.now c.args.function.0
    c.reply.new.self c.reply.new.memory c.reply.new.left c.reply.ensures.falls c.reply.result c.reply.ensures.answer
