use Rattle.std.proofs.Common.{◌≡◌, None, Err, subst}
use Rattle.std.proofs.lemmas.Result.{err_from_is_err_and}
use Rattle.ante_undo.specs.Stack.{Stack}
use Rattle.ante_types.specs.World.{World}
use Rattle.ante_execution.specs.Native.Rules.{acting_refusal, make_all}
use Rattle.ante_pack.specs.Names.{name_number, number_of}
use Rattle.ante_execution.specs.Native.NewAccount.{newaccount_refusal, newaccount_changes}
use Rattle.ante_native.specs.Data.{newaccount_of}
use Rattle.ante_native.specs.Parts.{Passes}
use Rattle.ante_native.proofs.Steps.{refused_then, done, three}
use Rattle.ante_native.proofs.newaccount.create.Goals as goal

pub returns-in_err-check_newaccount-clause-does : goal.returns-in_err-check_newaccount-clause-does
returns-in_err-check_newaccount-clause-does g c =
    let p = err_from_is_err_and c.from_residual-in_err-check_newaccount.result c.from_residual-in_err-check_newaccount.ensures.1 in
    let w = (g.T.Tables.stack c.args.tables.now).top in
    let d = newaccount_of c.args.asked in
    let e = c.in_err-check_newaccount.field-0.0 in
    rw (p.1, p.2) (refused_then (acting_refusal c.args.asked.creator c.args.run.now w) (newaccount_refusal d w) (make_all (newaccount_changes d) w) w e
    (subst (λ (s : Stack World). acting_refusal c.args.asked.creator c.args.run.now s.top ≡ None) c.store.ensures c.in_ok-check_acting.ensures)
    (subst (λ (s : Stack World). Passes (newaccount_refusal d s.top) (Err e)) c.store-2.ensures c.in_err-check_newaccount.ensures))

pub returns-clause-does : goal.returns-clause-does
unfolding name_number number_of
returns-clause-does g c =
    let w = (g.T.Tables.stack c.args.tables.now).top in
    let v = (g.T.Tables.stack c.make_three.new.tables).top in
    let d = newaccount_of c.args.asked in
    done (acting_refusal c.args.asked.creator c.args.run.now w) (newaccount_refusal d w) (make_all (newaccount_changes d) w) v c.make_three.result
    (subst (λ (s : Stack World). acting_refusal c.args.asked.creator c.args.run.now s.top ≡ None) c.store.ensures c.in_ok-check_acting.ensures)
    (subst (λ (s : Stack World). newaccount_refusal d s.top ≡ None) c.store-2.ensures c.in_ok-check_newaccount.ensures)
    (three w v c.make_three.result c.account-first.ensures c.permission-second.ensures c.permission-third.ensures c.make_three.ensures.does)
