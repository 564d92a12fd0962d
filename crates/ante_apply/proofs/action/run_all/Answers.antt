use Rattle.std.proofs.Common.{suc, ◌+◌, Ok, Err, subst, arith}
use Rattle.ante_execution.specs.Actions.{run_one, first_job, nothing_asked, notify, next_ordinal}
use Rattle.ante_execution.specs.Codes.{codes_with}
use Rattle.ante_execution.specs.declared.jobs.Asked.{Asked}
use Rattle.ante_apply.specs.Going.{going, Follows}
use Rattle.ante_apply.specs.Scenes.{scene_of}
use Rattle.ante_apply.proofs.Joining.{goes_on, ends_so}
use Rattle.ante_apply.proofs.Stops.{reaches_both, asked_after}
use Rattle.ante_apply.proofs.action.run_all.Goals as goal

pub returns-in-Err-clause-follows : goal.returns-in-Err-clause-follows
returns-in-Err-clause-follows g c = λ accepts a k.
    let codes = codes_with accepts in
    let scene = scene_of c.args.scene.now in
    let job = first_job c.args.action.now c.args.by c.args.depth in
    let start = going (g.T.Tables.stack c.args.tables.now).top c.args.left.now c.args.traces.now k in
    let old = g.P.Stop.looks c.args.stop.now in
    let mid = g.P.Stop.looks c.run_one.new.stop in
    ends_so {A = Asked} {C = Asked} (λ b n. (b, going (g.T.Tables.stack c.run_one.new.tables).top c.run_one.new.left c.run_one.new.traces n))
    (λ b n. (b, going (g.T.Tables.stack c.run_one.new.tables).top c.run_one.new.left c.run_one.new.traces n))
    (λ x. notify codes scene c.args.action.now c.args.depth (next_ordinal c.args.traces.now) (suc x.1.left) 0 x) k old mid mid
    (run_one codes scene c.args.action.now job nothing_asked start) c.in-Err.end c.run_one.new.left c.run_one.new.traces
    (subst (λ q. Follows {A = Asked} (λ b n. (b, going (g.T.Tables.stack c.run_one.new.tables).top c.run_one.new.left c.run_one.new.traces n)) k old mid
    (run_one codes scene c.args.action.now job q start) (Err c.in-Err.end) c.run_one.new.left c.run_one.new.traces) c.nothing_asked-asked.ensures
    (subst (λ r. Follows {A = Asked} (λ b n. (b, going (g.T.Tables.stack c.run_one.new.tables).top c.run_one.new.left c.run_one.new.traces n)) k old mid
    (run_one codes scene c.args.action.now job c.nothing_asked-asked.result start) r c.run_one.new.left c.run_one.new.traces) c.in-Err.is
    (c.run_one.ensures.follows accepts a k)))

pub returns-clause-follows : goal.returns-clause-follows
returns-clause-follows g c = λ accepts a k.
    let codes = codes_with accepts in
    let scene = scene_of c.args.scene.now in
    let job = first_job c.args.action.now c.args.by c.args.depth in
    let start = going (g.T.Tables.stack c.args.tables.now).top c.args.left.now c.args.traces.now k in
    let old = g.P.Stop.looks c.args.stop.now in
    let mid = g.P.Stop.looks c.run_one.new.stop in
    let new = g.P.Stop.looks c.notify.new.stop in
    let ran = subst (λ q. Follows {A = Asked} (λ b n. (b, going (g.T.Tables.stack c.run_one.new.tables).top c.run_one.new.left c.run_one.new.traces n)) k old mid
    (run_one codes scene c.args.action.now job q start) (Ok c.in-Ok.asked) c.run_one.new.left c.run_one.new.traces) c.nothing_asked-asked.ensures
    (subst (λ r. Follows {A = Asked} (λ b n. (b, going (g.T.Tables.stack c.run_one.new.tables).top c.run_one.new.left c.run_one.new.traces n)) k old mid
    (run_one codes scene c.args.action.now job c.nothing_asked-asked.result start) r c.run_one.new.left c.run_one.new.traces) c.in-Ok.is
    (c.run_one.ensures.follows accepts a k)) in
    goes_on {A = Asked} {C = Asked} (λ b n. (b, going (g.T.Tables.stack c.run_one.new.tables).top c.run_one.new.left c.run_one.new.traces n))
    (λ b n. (b, going (g.T.Tables.stack c.notify.new.tables).top c.notify.new.left c.notify.new.traces n))
    (λ x. notify codes scene c.args.action.now c.args.depth (next_ordinal c.args.traces.now) (suc x.1.left) 0 x) k old mid new
    (run_one codes scene c.args.action.now job nothing_asked start) c.in-Ok.asked c.run_one.new.left c.notify.new.left c.run_one.new.traces c.notify.new.traces c.notify.result ran
    (subst (λ n. Follows {A = Asked} (λ b n. (b, going (g.T.Tables.stack c.notify.new.tables).top c.notify.new.left c.notify.new.traces n)) (k + ran.0) mid new
    (notify codes scene c.args.action.now c.args.depth (n + 1) (suc c.run_one.new.left) 0
    (c.in-Ok.asked, going (g.T.Tables.stack c.run_one.new.tables).top c.run_one.new.left c.run_one.new.traces (k + ran.0)))
    c.notify.result c.notify.new.left c.notify.new.traces) c.len.ensures
    (c.notify.ensures.follows accepts a (k + ran.0) (suc c.run_one.new.left) (omega arith)))

pub returns-clause-reaches : goal.returns-clause-reaches
returns-clause-reaches g c = reaches_both g.P.Stop.may c.args.stop.now c.run_one.new.stop c.notify.new.stop c.run_one.ensures.reaches c.notify.ensures.reaches

pub returns-clause-cut : goal.returns-clause-cut
returns-clause-cut g c = λ at e. asked_after g.P.Stop.may c.args.stop.now c.run_one.new.stop c.notify.new.stop at c.run_one.ensures.reaches (c.notify.ensures.cut at e)
