use Rattle.std.proofs.Common.{◌≡◌, ℕ, List, None, Result, Ok, IfOk, sym, subst, ◌∙◌}
use Rattle.ante_execution.specs.Authorities.{check_action}
use Rattle.ante_execution.specs.Refusals.{first_refusal}
use Rattle.ante_execution.specs.Transactions.{authority_refusal, keys_from}
use Rattle.ante_checks.proofs.authority.check_authority.Goals as goal

pub returns-in-Ok : goal.returns-in-Ok
returns-in-Ok g c =
    let found = keys_from (g.V.Verdicts.judge c.args.verdicts.now).recovers c.args.digest.now 0 c.args.signatures.now in
    let all : c.in_ok-keys.field-0 ≡ found = subst (λ r. IfOk r (λ keys. keys ≡ found)) c.in_ok-keys.was c.keys_of.ensures in
    let is : Ok c.in-Ok.keys ≡ found = sym c.in-Ok.is ∙ all in
    subst (λ (k : Result (List (List ℕ)) ℕ). IfOk c.check_actions.result (λ refusal. refusal ≡ authority_refusal c.args.store.now.top c.args.actions.now k)) is
    (subst (λ (keys : List (List ℕ)). IfOk c.check_actions.result (λ refusal. refusal ≡ first_refusal (λ a. check_action c.args.store.now.top a keys None) c.args.actions.now))
    c.as_slice.ensures c.check_actions.ensures)
