use Rattle.std.proofs.Common.{refl, sym, subst, ◌∙◌, arith}
use Rattle.ante_execution.specs.Actions.{run_one, notice}
use Rattle.ante_execution.specs.Codes.{codes_with}
use Rattle.ante_execution.specs.declared.jobs.Asked.{Asked}
use Rattle.ante_apply.specs.Going.{going, Follows}
use Rattle.ante_apply.specs.Scenes.{scene_of}
use Rattle.ante_apply.proofs.Rounds.{none_notified, one_notified, one_ended, all_notified}
use Rattle.ante_apply.proofs.Stops.{reaches_none, reaches_both, asked_after}
use Rattle.ante_apply.proofs.notices.notify.Goals as goal

pub each-init : goal.each-init
each-init g c = (
  λ accepts a. none_notified (codes_with accepts) (scene_of c.args.scene.now) c.args.action.now c.args.depth c.args.creator c.args.asked
      (λ k. going (g.T.Tables.stack c.args.tables.now).top c.args.left.now c.args.traces.now k) c.args.left.now (g.P.Stop.looks c.args.stop.now),
  omega arith,
  refl,
  reaches_none g.P.Stop.may c.args.stop.now,
  omega arith,
)

pub each-preserved : goal.each-preserved
each-preserved g c = (
  λ accepts a. one_notified (codes_with accepts) (scene_of c.args.scene.now) c.args.action.now c.args.depth c.args.creator c.args.asked
      (λ k. going (g.T.Tables.stack c.args.tables.now).top c.args.left.now c.args.traces.now k) c.args.left.now (g.P.Stop.looks c.args.stop.now)
      c.each.so_far c.each.place (λ k. going (g.T.Tables.stack c.each.tables).top c.each.left c.each.traces k) c.each.left (g.P.Stop.looks c.each.stop)
      (c.in-Some.receiver, c.in-Some.sender) (sym c.recipient_at.ensures ∙ c.in-Some.is) (c.each.invariant.0 accepts a)
      c.in-Ok.asked (λ k. going (g.T.Tables.stack c.run_one.new.tables).top c.run_one.new.left c.run_one.new.traces k) c.run_one.new.left
      (g.P.Stop.looks c.run_one.new.stop) c.in-Ok.ensures.pays
      (λ k. subst (λ r. Follows {A = Asked} (λ b n. (b, going (g.T.Tables.stack c.run_one.new.tables).top c.run_one.new.left c.run_one.new.traces n)) k
      (g.P.Stop.looks c.each.stop) (g.P.Stop.looks c.run_one.new.stop)
      (run_one (codes_with accepts) (scene_of c.args.scene.now) c.args.action.now (notice c.args.depth c.args.creator c.in-Some.receiver c.in-Some.sender) c.each.so_far
      (going (g.T.Tables.stack c.each.tables).top c.each.left c.each.traces k)) r c.run_one.new.left c.run_one.new.traces)
      c.in-Ok.is (c.run_one.ensures.follows accepts a k)),
  omega (arith, c.each.invariant.1, c.in-Ok.ensures.small),
  c.run_one.ensures.base ∙ c.each.invariant.2,
  reaches_both g.P.Stop.may c.args.stop.now c.each.stop c.run_one.new.stop c.each.invariant.3 c.run_one.ensures.reaches,
  omega (arith, c.each.invariant.4, c.in-Ok.ensures.pays),
)

pub overflow_add-place : goal.overflow_add-place
overflow_add-place g c = omega (arith, c.each.invariant.4, c.in-Ok.ensures.pays, c.requires.small)

pub returns-in-Err-clause-follows : goal.returns-in-Err-clause-follows
returns-in-Err-clause-follows g c = λ accepts a. one_ended (codes_with accepts) (scene_of c.args.scene.now) c.args.action.now c.args.depth c.args.creator c.args.asked
    (λ k. going (g.T.Tables.stack c.args.tables.now).top c.args.left.now c.args.traces.now k) c.args.left.now (g.P.Stop.looks c.args.stop.now)
    c.each.so_far c.each.place (λ k. going (g.T.Tables.stack c.each.tables).top c.each.left c.each.traces k) c.each.left (g.P.Stop.looks c.each.stop)
    (c.in-Some.receiver, c.in-Some.sender) (sym c.recipient_at.ensures ∙ c.in-Some.is) (c.each.invariant.0 accepts a)
    (λ b n. (b, going (g.T.Tables.stack c.run_one.new.tables).top c.run_one.new.left c.run_one.new.traces n)) c.in-Err.end c.run_one.new.left c.run_one.new.traces
    (g.P.Stop.looks c.run_one.new.stop)
    (λ k. subst (λ r. Follows {A = Asked} (λ b n. (b, going (g.T.Tables.stack c.run_one.new.tables).top c.run_one.new.left c.run_one.new.traces n)) k
    (g.P.Stop.looks c.each.stop) (g.P.Stop.looks c.run_one.new.stop)
    (run_one (codes_with accepts) (scene_of c.args.scene.now) c.args.action.now (notice c.args.depth c.args.creator c.in-Some.receiver c.in-Some.sender) c.each.so_far
    (going (g.T.Tables.stack c.each.tables).top c.each.left c.each.traces k)) r c.run_one.new.left c.run_one.new.traces)
    c.in-Err.is (c.run_one.ensures.follows accepts a k))

pub returns-in-Err-clause-reaches : goal.returns-in-Err-clause-reaches
returns-in-Err-clause-reaches g c = reaches_both g.P.Stop.may c.args.stop.now c.each.stop c.run_one.new.stop c.each.invariant.3 c.run_one.ensures.reaches

pub returns-in-Err-clause-cut : goal.returns-in-Err-clause-cut
returns-in-Err-clause-cut g c = λ at e. asked_after g.P.Stop.may c.args.stop.now c.each.stop c.run_one.new.stop at c.each.invariant.3 (c.run_one.ensures.cut at (c.in-Err.is ∙ e))

pub returns-clause-follows : goal.returns-clause-follows
returns-clause-follows g c = λ accepts a. all_notified (codes_with accepts) (scene_of c.args.scene.now) c.args.action.now c.args.depth c.args.creator c.args.asked
    (λ k. going (g.T.Tables.stack c.args.tables.now).top c.args.left.now c.args.traces.now k) c.args.left.now (g.P.Stop.looks c.args.stop.now)
    (λ b n. (b, going (g.T.Tables.stack c.each.tables).top c.each.left c.each.traces n))
    c.each.so_far c.each.place (λ k. going (g.T.Tables.stack c.each.tables).top c.each.left c.each.traces k) c.each.left c.each.traces (g.P.Stop.looks c.each.stop)
    (λ n. refl) (sym c.recipient_at.ensures ∙ c.in_default.is) (c.each.invariant.0 accepts a)
