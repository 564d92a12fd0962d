use Rattle.std.proofs.Common.{◌≡◌, ◌∙◌, None, subst, sym, ap}
use Rattle.std.proofs.lemmas.Result.{err_from_is_err_and}
use Rattle.ante_undo.specs.Stack.{Stack}
use Rattle.ante_types.specs.World.{World}
use Rattle.ante_execution.specs.Native.Rules.{acting_refusal, make_all}
use Rattle.std.specs.Option.{option_copied}
use Rattle.ante_calls.specs.Accounts.{account_at}
use Rattle.ante_execution.specs.Native.SetCode.{setcode_refusal, setcode_changes}
use Rattle.ante_native.specs.Data.{setcode_of}
use Rattle.ante_native.proofs.Steps.{refused_then, done, coded_makes}
use Rattle.ante_native.proofs.setcode.code_account.Goals as goal

pub returns-in_err-check_setcode-clause-does : goal.returns-in_err-check_setcode-clause-does
returns-in_err-check_setcode-clause-does g c = λ accepts is.
    let p = err_from_is_err_and c.from_residual-in_err-check_setcode.result c.from_residual-in_err-check_setcode.ensures.1 in
    let w = (g.T.Tables.stack c.args.tables.now).top in
    let d = setcode_of c.args.coded in
    let e = c.in_err-check_setcode.field-0.0 in
    rw (p.1, p.2) (refused_then (acting_refusal c.args.coded.account c.args.run.now w) (setcode_refusal accepts d) (make_all (setcode_changes d w) w) w e
    (subst (λ (s : Stack World). acting_refusal c.args.coded.account c.args.run.now s.top ≡ None) c.store.ensures c.in_ok-check_acting.ensures)
    (c.in_err-check_setcode.ensures accepts is))

pub returns-clause-does : goal.returns-clause-does
returns-clause-does g c = λ accepts is.
    let w = (g.T.Tables.stack c.args.tables.now).top in
    let v = (g.T.Tables.stack c.make.new.tables).top in
    let d = setcode_of c.args.coded in
    done (acting_refusal c.args.coded.account c.args.run.now w) (setcode_refusal accepts d) (make_all (setcode_changes d w) w) v c.make.result
    (subst (λ (s : Stack World). acting_refusal c.args.coded.account c.args.run.now s.top ≡ None) c.store.ensures c.in_ok-check_acting.ensures)
    (c.in_ok-check_setcode.ensures accepts is)
    (coded_makes d (account_at c.args.coded.account w) c.in-Some.row.now c.in_ok-row.row w v c.make.result
    (sym (subst (λ (s : Stack World). option_copied c.account.result ≡ account_at c.args.coded.account s.top) c.store-2.ensures c.account.ensures) ∙ ap option_copied c.in-Some.is)
    c.in_ok-row.ensures c.make.ensures.does)
