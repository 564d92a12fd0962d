use Rattle.std.proofs.Common.{◌≡◌, sym, ap, ◌∙◌, subst, Ok}
use Rattle.std.specs.Option.{option_map}
use Rattle.ante_pack.specs.Forms.{whole, IsWhole}
use Rattle.ante_types.specs.Chain.{action}
use Rattle.ante_calls.specs.Authorization as auth
use Rattle.ante_calls.specs.Calls.{range, replies}
use Rattle.ante_sysapi.specs.Answers.{Answers, view}
use Rattle.ante_sysapi.proofs.Paid.{paid_shown}
use Rattle.ante_sysapi.proofs.sending.send_inline.Goals as goal

pub returns-in-Ok-clause-answer : goal.returns-in-Ok-clause-answer
returns-in-Ok-clause-answer g c =
    let world = (g.T.Tables.stack c.args.tables.now).top in
    let m = c.args.memory.now in
    let left = c.pay.new.left in
    let read : whole action c.in-Some.bytes.now ≡ Ok c.in-Ok.action =
    subst (λ r. IsWhole r (whole action c.in-Some.bytes.now)) c.in-Ok.is c.read_action.ensures.fault in
    paid_shown (range 0 c.args.args.now m) c.in-Some.bytes.now c.args.left.now left (λ b v. auth.sent (whole action b) v m) c.send.result
    (view world c.args.run.now) (view world c.send.new.run) m (sym c.range.ensures.bytes ∙ ap (option_map (λ b. b.now)) c.in-Some.is)
    c.if-not-pay.ensures.paid c.if-not-pay.ensures.left
    (subst (λ r. Answers (λ x. replies (auth.sent r x m) left) c.send.result (view world c.args.run.now) (view world c.send.new.run) m left) (sym read)
    (c.send.ensures.answer m left))
