use Rattle.std.proofs.Common.{◌≡◌, IfOk, OnOk, ap, subst, sym, ◌∙◌}
use Rattle.ante_accepts.specs.Accepting.{chain_codes}
use Rattle.ante_execution.specs.Transactions.{Done}
use Rattle.ante_undo.specs.Stack.{with_top}
use Rattle.ante_transactions.proofs.Whole.{allowed, refused}
use Rattle.ante_transactions.proofs.transaction.run_transaction.Goals as goal

pub returns-in-Some-clause-trace : goal.returns-in-Some-clause-trace
returns-in-Some-clause-trace g c =
    c.refused-in-Some.ensures ∙ ap (λ (d : Done). d.trace) (sym (refused chain_codes (g.V.Verdicts.judge c.args.verdicts.now).recovers c.args.chain_id.now c.args.info c.args.store.now.top c.args.packed.now c.args.signatures.now c.in-Ok.trx
    c.in-Ok.ensures.fault c.in-Some.failure (sym c.in_ok-failure.ensures ∙ c.in-Some.is)))

pub returns-in-Some-clause-ok : goal.returns-in-Some-clause-ok
returns-in-Some-clause-ok g c =
    ap (λ (d : Done). with_top d.world c.args.store.now) (sym (refused chain_codes (g.V.Verdicts.judge c.args.verdicts.now).recovers c.args.chain_id.now c.args.info c.args.store.now.top c.args.packed.now c.args.signatures.now c.in-Ok.trx
    c.in-Ok.ensures.fault c.in-Some.failure (sym c.in_ok-failure.ensures ∙ c.in-Some.is)))

pub returns-clause-trace : goal.returns-clause-trace
returns-clause-trace g c =
    subst (λ (d : Done). IfOk c.run_checked.result (λ trace. trace ≡ d.trace)) (sym (allowed chain_codes (g.V.Verdicts.judge c.args.verdicts.now).recovers c.args.chain_id.now c.args.info c.args.store.now.top c.args.packed.now c.args.signatures.now c.in-Ok.trx
    c.in-Ok.ensures.fault (sym c.in_ok-failure.ensures ∙ c.in-None.is))) c.run_checked.ensures.trace

pub returns-clause-ok : goal.returns-clause-ok
returns-clause-ok g c =
    subst (λ (d : Done). OnOk c.run_checked.result (c.run_checked.new.store ≡ with_top d.world c.args.store.now)) (sym (allowed chain_codes (g.V.Verdicts.judge c.args.verdicts.now).recovers c.args.chain_id.now c.args.info c.args.store.now.top c.args.packed.now c.args.signatures.now c.in-Ok.trx
    c.in-Ok.ensures.fault (sym c.in_ok-failure.ensures ∙ c.in-None.is))) c.run_checked.ensures.ok
