use Rattle.std.proofs.Common.{◌≡◌, None, Err, subst}
use Rattle.std.proofs.lemmas.Result.{err_from_is_err_and}
use Rattle.ante_undo.specs.Stack.{Stack}
use Rattle.ante_types.specs.World.{World}
use Rattle.ante_execution.specs.Native.Rules.{acting_refusal, make_all}
use Rattle.ante_execution.specs.Native.UpdateAuth.{updateauth_refusal, updateauth_changes}
use Rattle.ante_native.specs.Data.{updateauth_of}
use Rattle.ante_native.specs.Parts.{Passes}
use Rattle.ante_native.proofs.Steps.{refused_then, done}
use Rattle.ante_native.proofs.updateauth.update.Goals as goal

pub returns-in_err-check_updateauth-clause-does : goal.returns-in_err-check_updateauth-clause-does
returns-in_err-check_updateauth-clause-does g c =
    let p = err_from_is_err_and c.from_residual-in_err-check_updateauth.result c.from_residual-in_err-check_updateauth.ensures.1 in
    let w = (g.T.Tables.stack c.args.tables.now).top in
    let d = updateauth_of c.args.updated in
    let e = c.in_err-check_updateauth.field-0.0 in
    rw (p.1, p.2) (refused_then (acting_refusal c.args.updated.account c.args.run.now w) (updateauth_refusal d w) (make_all (updateauth_changes d) w) w e
    (subst (λ (s : Stack World). acting_refusal c.args.updated.account c.args.run.now s.top ≡ None) c.store.ensures c.in_ok-check_acting.ensures)
    (subst (λ (s : Stack World). Passes (updateauth_refusal d s.top) (Err e)) c.store-2.ensures c.in_err-check_updateauth.ensures))

pub returns-clause-does : goal.returns-clause-does
returns-clause-does g c =
    let w = (g.T.Tables.stack c.args.tables.now).top in
    let v = (g.T.Tables.stack c.make.new.tables).top in
    let d = updateauth_of c.args.updated in
    done (acting_refusal c.args.updated.account c.args.run.now w) (updateauth_refusal d w) (make_all (updateauth_changes d) w) v c.make.result
    (subst (λ (s : Stack World). acting_refusal c.args.updated.account c.args.run.now s.top ≡ None) c.store.ensures c.in_ok-check_acting.ensures)
    (subst (λ (s : Stack World). updateauth_refusal d s.top ≡ None) c.store-2.ensures c.in_ok-check_updateauth.ensures)
    c.make.ensures.does
