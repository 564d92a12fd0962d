use Rattle.std.proofs.Common.{◌≡◌, ◌∷◌, [], length, Bool, Ok, Err, refl, ap, subst, ◌∙◌, arith, rules}
use Rattle.std.proofs.lemmas.List.{nil_from_length}
use Rattle.ante_execution.specs.Actions.{apply}
use Rattle.ante_execution.specs.Codes.{codes_with}
use Rattle.ante_apply.specs.Going.{going, Follows}
use Rattle.ante_apply.specs.Scenes.{mode_of, scene_with}
use Rattle.ante_apply.proofs.Stops.{reaches_both, asked_after}
use Rattle.ante_transactions.proofs.Turns.{InOrder, all_done, one_done, one_failed}
use Rattle.ante_transactions.proofs.actions.apply_all.Goals as goal

pub returns-clause-follows : goal.returns-clause-follows
returns-clause-follows g c = λ accepts a k.
    let none : length c.each.rest.now ≡ 0 = search rules in
    let empty : c.each.rest.now ≡ [] = nil_from_length c.each.rest.now none in
    all_done (codes_with accepts) (scene_with (mode_of (g.T.Tables.writing c.args.tables.now)) c.args.slot c.args.packed.now) c.args.actions.now
    (λ k. going (g.T.Tables.stack c.args.tables.now).top c.args.left.now c.args.traces.now k) (g.P.Stop.looks c.args.stop.now)
    (λ done n. going (g.T.Tables.stack c.each.tables).top c.each.left c.each.traces n) (λ n. going (g.T.Tables.stack c.each.tables).top c.each.left c.each.traces n)
    c.each.left c.each.traces (g.P.Stop.looks c.each.stop) (λ n. refl)
    (subst (λ r. InOrder (codes_with accepts) (scene_with (mode_of (g.T.Tables.writing c.args.tables.now)) c.args.slot c.args.packed.now) c.args.actions.now
    (λ k. going (g.T.Tables.stack c.args.tables.now).top c.args.left.now c.args.traces.now k) (g.P.Stop.looks c.args.stop.now)
    r (λ n. going (g.T.Tables.stack c.each.tables).top c.each.left c.each.traces n) (g.P.Stop.looks c.each.stop)) empty (c.each.invariant.0 accepts a)) k

pub returns-in-Err-clause-follows : goal.returns-in-Err-clause-follows
returns-in-Err-clause-follows g c = λ accepts a k.
    let each : c.each.rest.now ≡ c.in-Some.action.now ∷ c.in-Some.more.now = search rules in
    let writing : g.T.Tables.writing c.each.tables ≡ g.T.Tables.writing c.args.tables.now = ap (λ b. b.writing) c.each.invariant.2 in
    one_failed (codes_with accepts) (scene_with (mode_of (g.T.Tables.writing c.args.tables.now)) c.args.slot c.args.packed.now) c.args.actions.now
    (λ k. going (g.T.Tables.stack c.args.tables.now).top c.args.left.now c.args.traces.now k) (g.P.Stop.looks c.args.stop.now)
    (λ done n. going (g.T.Tables.stack c.apply_action.new.tables).top c.apply_action.new.left c.apply_action.new.traces n) c.in-Some.action.now c.in-Some.more.now
    (λ n. going (g.T.Tables.stack c.each.tables).top c.each.left c.each.traces n) (g.P.Stop.looks c.each.stop) (g.P.Stop.looks c.apply_action.new.stop)
    c.in-Err.end c.apply_action.new.left c.apply_action.new.traces
    (subst (λ r. InOrder (codes_with accepts) (scene_with (mode_of (g.T.Tables.writing c.args.tables.now)) c.args.slot c.args.packed.now) c.args.actions.now
    (λ k. going (g.T.Tables.stack c.args.tables.now).top c.args.left.now c.args.traces.now k) (g.P.Stop.looks c.args.stop.now)
    r (λ n. going (g.T.Tables.stack c.each.tables).top c.each.left c.each.traces n) (g.P.Stop.looks c.each.stop)) each (c.each.invariant.0 accepts a))
    (λ k. subst (λ (b : Bool). Follows {A = Unit {0}} (λ done n. going (g.T.Tables.stack c.apply_action.new.tables).top c.apply_action.new.left c.apply_action.new.traces n) k
    (g.P.Stop.looks c.each.stop) (g.P.Stop.looks c.apply_action.new.stop)
    (apply (codes_with accepts) (scene_with (mode_of b) c.args.slot c.args.packed.now) c.in-Some.action.now (going (g.T.Tables.stack c.each.tables).top c.each.left c.each.traces k))
    (Err c.in-Err.end) c.apply_action.new.left c.apply_action.new.traces) writing
    (subst (λ r. Follows {A = Unit {0}} (λ done n. going (g.T.Tables.stack c.apply_action.new.tables).top c.apply_action.new.left c.apply_action.new.traces n) k
    (g.P.Stop.looks c.each.stop) (g.P.Stop.looks c.apply_action.new.stop)
    (apply (codes_with accepts) (scene_with (mode_of (g.T.Tables.writing c.each.tables)) c.args.slot c.args.packed.now) c.in-Some.action.now (going (g.T.Tables.stack c.each.tables).top c.each.left c.each.traces k))
    r c.apply_action.new.left c.apply_action.new.traces) c.in-Err.is (c.apply_action.ensures.follows accepts a k))) k

pub returns-in-Err-clause-reaches : goal.returns-in-Err-clause-reaches
returns-in-Err-clause-reaches g c = reaches_both g.P.Stop.may c.args.stop.now c.each.stop c.apply_action.new.stop c.each.invariant.3 c.apply_action.ensures.reaches

pub returns-in-Err-clause-cut : goal.returns-in-Err-clause-cut
returns-in-Err-clause-cut g c = λ at e. asked_after g.P.Stop.may c.args.stop.now c.each.stop c.apply_action.new.stop at c.each.invariant.3 (c.apply_action.ensures.cut at (c.in-Err.is ∙ e))

pub each-preserved : goal.each-preserved
each-preserved g c = (
  λ accepts a.
      let each : c.each.rest.now ≡ c.in-Some.action.now ∷ c.in-Some.more.now = search rules in
      let writing : g.T.Tables.writing c.each.tables ≡ g.T.Tables.writing c.args.tables.now = ap (λ b. b.writing) c.each.invariant.2 in
      one_done (codes_with accepts) (scene_with (mode_of (g.T.Tables.writing c.args.tables.now)) c.args.slot c.args.packed.now) c.args.actions.now
      (λ k. going (g.T.Tables.stack c.args.tables.now).top c.args.left.now c.args.traces.now k) (g.P.Stop.looks c.args.stop.now)
      c.in-Some.action.now c.in-Some.more.now (λ n. going (g.T.Tables.stack c.each.tables).top c.each.left c.each.traces n)
      (λ n. going (g.T.Tables.stack c.apply_action.new.tables).top c.apply_action.new.left c.apply_action.new.traces n) (g.P.Stop.looks c.each.stop) (g.P.Stop.looks c.apply_action.new.stop)
      (subst (λ r. InOrder (codes_with accepts) (scene_with (mode_of (g.T.Tables.writing c.args.tables.now)) c.args.slot c.args.packed.now) c.args.actions.now
      (λ k. going (g.T.Tables.stack c.args.tables.now).top c.args.left.now c.args.traces.now k) (g.P.Stop.looks c.args.stop.now)
      r (λ n. going (g.T.Tables.stack c.each.tables).top c.each.left c.each.traces n) (g.P.Stop.looks c.each.stop)) each (c.each.invariant.0 accepts a))
      (λ k. subst (λ (b : Bool). Follows {A = Unit {0}} (λ done n. going (g.T.Tables.stack c.apply_action.new.tables).top c.apply_action.new.left c.apply_action.new.traces n) k
      (g.P.Stop.looks c.each.stop) (g.P.Stop.looks c.apply_action.new.stop)
      (apply (codes_with accepts) (scene_with (mode_of b) c.args.slot c.args.packed.now) c.in-Some.action.now (going (g.T.Tables.stack c.each.tables).top c.each.left c.each.traces k))
      (Ok tt) c.apply_action.new.left c.apply_action.new.traces) writing
      (subst (λ r. Follows {A = Unit {0}} (λ done n. going (g.T.Tables.stack c.apply_action.new.tables).top c.apply_action.new.left c.apply_action.new.traces n) k
      (g.P.Stop.looks c.each.stop) (g.P.Stop.looks c.apply_action.new.stop)
      (apply (codes_with accepts) (scene_with (mode_of (g.T.Tables.writing c.each.tables)) c.args.slot c.args.packed.now) c.in-Some.action.now (going (g.T.Tables.stack c.each.tables).top c.each.left c.each.traces k))
      r c.apply_action.new.left c.apply_action.new.traces) c.in_default-apply_action.is (c.apply_action.ensures.follows accepts a k))),
  omega (arith, c.each.invariant.1, c.in_default-apply_action.ensures.small),
  c.apply_action.ensures.base ∙ c.each.invariant.2,
  reaches_both g.P.Stop.may c.args.stop.now c.each.stop c.apply_action.new.stop c.each.invariant.3 c.apply_action.ensures.reaches,
)
