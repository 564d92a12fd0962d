use Rattle.ante_execution.specs.Native.{native_run}
use Rattle.ante_apply.proofs.Ends.{native_shown, of_run}
use Rattle.ante_apply.proofs.run.do_native.Goals as goal

pub returns-clause-does : goal.returns-clause-does
returns-clause-does g c = λ accepts a.
    let w = (g.T.Tables.stack c.args.tables.now).top in let v = (g.T.Tables.stack c.native.new.tables).top in
    native_shown (native_run accepts c.args.run.now w c.args.action) v c.native.result c.native_failure.result
    (of_run accepts c.args.run.now w v c.args.action c.native.result c.requires.native (c.native.ensures.does accepts a)) c.native_failure.ensures.shows
