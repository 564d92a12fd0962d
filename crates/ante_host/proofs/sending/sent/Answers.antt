use Rattle.std.proofs.Common.{sym, ap, subst, ◌∙◌, Err}
use Rattle.std.specs.Option.{option_copied}
use Rattle.ante_execution.specs.Answers.{Checks}
use Rattle.ante_host.proofs.Sent.{checked_of}
use Rattle.ante_host.proofs.sending.sent.Goals as goal

pub returns-in-Err : goal.returns-in-Err
returns-in-Err c = λ lists packed. c.refused.ensures _
    (subst (λ r. Checks r (Err c.in-Err.fault))
    (sym (checked_of (record { world = c.args.store.now.top; lists = lists; run = c.args.run.now; packed = packed }) c.in-Some.action.now
    (sym c.is_system.ensures ∙ c.if-is_system.false) (sym c.last_sent.ensures ∙ ap option_copied c.in-Some.is)))
    c.in-Err.ensures)
