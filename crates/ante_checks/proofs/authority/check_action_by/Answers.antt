use Rattle.std.proofs.Common.{◌≡◌, None, Some, IfOk, sym, subst}
use Rattle.ante_execution.specs.Answers.{Checks}
use Rattle.ante_execution.specs.Authorities.{check_action}
use Rattle.ante_checks.proofs.authority.check_action_by.Goals as goal

pub returns-in_ok-failure-in-Err : goal.returns-in_ok-failure-in-Err
returns-in_ok-failure-in-Err c =
    let refusal = check_action c.args.store.now.top c.args.action.now c.args.keys.now None in
    let shown = c.failure_of.ensures refusal (subst (Checks refusal) c.in-Err.is c.check_action.ensures) in
    sym (subst (λ r. IfOk r (λ failure. refusal ≡ Some failure)) c.in_ok-failure-in-Err.was shown)
