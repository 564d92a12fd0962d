use Rattle.std.proofs.Common.{sym, ap, ◌∙◌}
use Rattle.std.specs.Option.{option_map}
use Rattle.ante_calls.specs.Calls.{range}
use Rattle.ante_calls.specs.RowAnswers.{view_of}
use Rattle.ante_rowcalls.specs.RowCalls.{stored_with}
use Rattle.ante_rowcalls.proofs.Showing.{paid_shown}
use Rattle.ante_rowcalls.proofs.writing.store.Goals as goal

pub returns-clause-answer : goal.returns-clause-answer
returns-clause-answer g c =
    let v = view_of (g.T.Tables.stack c.args.tables.now) c.args.iters.now in
    paid_shown (range 4 c.args.args.now c.args.memory.now) c.in-Some.bytes.now c.args.left.now c.pay.new.left
    (λ bytes. stored_with c.args.run.now c.args.args.now bytes c.args.memory.now v) c.store_bytes.result v
    (view_of (g.T.Tables.stack c.store_bytes.new.tables) c.store_bytes.new.iters) c.args.memory.now
    (sym c.range.ensures.bytes ∙ ap (option_map (λ b. b.now)) c.in-Some.is) c.if-not-pay.ensures.paid c.if-not-pay.ensures.left
    (c.store_bytes.ensures.answer c.args.memory.now c.pay.new.left)
