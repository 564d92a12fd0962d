use Rattle.std.proofs.Common.{◌∙◌, sym, ap}
use Rattle.std.specs.Prelude.{option_map}
use Rattle.std.proofs.lemmas.Result.{err_from_is_err_and}
use Rattle.ante_execution.specs.Native.{native_run, native_in_run}
use Rattle.ante_native.proofs.Kept.{keeps_codes}
use Rattle.ante_native.proofs.Steps.{fails_native}
use Rattle.ante_native.proofs.action.native.Goals as goal

pub returns-in_err-do_native-clause-does : goal.returns-in_err-do_native-clause-does
returns-in_err-do_native-clause-does g c = λ accepts is.
    let p = err_from_is_err_and c.from_residual.result c.from_residual.ensures.1 in
    let w = (g.T.Tables.stack c.args.tables.now).top in
    let v = (g.T.Tables.stack c.do_native.new.tables).top in
    rw (p.1, p.2) (fails_native (native_in_run accepts c.args.run.now w) (native_run accepts c.args.run.now w c.in-Some.action) c.in_err-do_native.field-0.0 v
    (ap (option_map (native_run accepts c.args.run.now w)) (sym c.native_of_run.ensures ∙ c.in-Some.is)) (c.in_err-do_native.ensures.does accepts is))

pub returns-clause-codes : goal.returns-clause-codes
returns-clause-codes g c = λ accepts is all.
    keeps_codes accepts c.args.run.now (g.T.Tables.stack c.args.tables.now).top (g.T.Tables.stack c.do_native.new.tables).top c.in-Some.action (c.in_ok-do_native.ensures.does accepts is) all
