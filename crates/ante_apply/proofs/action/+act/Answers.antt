use Rattle.std.proofs.Common.{◌≡◌, ◌+◌, ◌-◌, ◌∷◌, length, inl, inr, Ok, Err, refl, subst, ◌∙◌, arith, rules}
use Rattle.ante_execution.specs.Actions.{act, in_turn}
use Rattle.ante_execution.specs.Codes.{codes_with}
use Rattle.ante_execution.specs.declared.jobs.Asked.{Asked}
use Rattle.ante_apply.specs.Going.{all_runs, going, Follows}
use Rattle.ante_apply.specs.Scenes.{scene_of}
use Rattle.ante_apply.proofs.Depths.{after_runs, runs_ended, all_done, none_of}
use Rattle.ante_apply.proofs.Rounds.{InTurn, one_done, one_failed}
use Rattle.ante_apply.proofs.Stops.{reaches_both, asked_after}
use Rattle.ante_apply.proofs.action.+act.Goals as goal

pub returns-in-Err-clause-follows : goal.returns-in-Err-clause-follows
returns-in-Err-clause-follows g m c = λ accepts a k.
    runs_ended (codes_with accepts) (scene_of c.args.scene.now) c.args.depth c.args.action.now c.args.by (λ n. going (g.T.Tables.stack c.args.tables.now).top c.args.left.now c.args.traces.now n) c.args.free (λ e. omega (arith, e, c.if-free-eq0.false)) (g.P.Stop.looks c.args.stop.now) (g.P.Stop.looks c.run_all.new.stop) (λ n. going (g.T.Tables.stack c.run_all.new.tables).top c.run_all.new.left c.run_all.new.traces n) k
    (λ done n. going (g.T.Tables.stack c.run_all.new.tables).top c.run_all.new.left c.run_all.new.traces n) c.in-Err.end c.run_all.new.left c.run_all.new.traces
    (subst (λ r. Follows {A = Asked} (λ b n. (b, going (g.T.Tables.stack c.run_all.new.tables).top c.run_all.new.left c.run_all.new.traces n)) k (g.P.Stop.looks c.args.stop.now) (g.P.Stop.looks c.run_all.new.stop) (all_runs (codes_with accepts) (scene_of c.args.scene.now) c.args.depth c.args.action.now c.args.by (going (g.T.Tables.stack c.args.tables.now).top c.args.left.now c.args.traces.now k)) r c.run_all.new.left c.run_all.new.traces)
    c.in-Err.is (c.run_all.ensures.follows accepts a k))

pub returns-in_default-split_first-clause-follows : goal.returns-in_default-split_first-clause-follows
returns-in_default-split_first-clause-follows g m c = λ accepts a k.
    let empty : length c.each.senders.now ≡ 0 = search rules in
    let none = none_of c.each.senders.now empty in
    let sl : c.as_slice-actions.result.now ≡ c.in-Ok.asked.inlines = c.as_slice-actions.ensures in
    let ss : c.as_slice-senders.result.now ≡ c.in-Ok.asked.senders = c.as_slice-senders.ensures in
    let ran = (subst (λ r. Follows {A = Asked} (λ b n. (b, going (g.T.Tables.stack c.run_all.new.tables).top c.run_all.new.left c.run_all.new.traces n)) k (g.P.Stop.looks c.args.stop.now) (g.P.Stop.looks c.run_all.new.stop) (all_runs (codes_with accepts) (scene_of c.args.scene.now) c.args.depth c.args.action.now c.args.by (going (g.T.Tables.stack c.args.tables.now).top c.args.left.now c.args.traces.now k)) r c.run_all.new.left c.run_all.new.traces)
    c.in-Ok.is (c.run_all.ensures.follows accepts a k)) in
    after_runs (codes_with accepts) (scene_of c.args.scene.now) c.args.depth c.args.action.now c.args.by (λ n. going (g.T.Tables.stack c.args.tables.now).top c.args.left.now c.args.traces.now n) c.args.free (λ e. omega (arith, e, c.if-free-eq0.false)) (g.P.Stop.looks c.args.stop.now) (g.P.Stop.looks c.run_all.new.stop) (λ n. going (g.T.Tables.stack c.run_all.new.tables).top c.run_all.new.left c.run_all.new.traces n) k c.in-Ok.asked c.run_all.new.left c.run_all.new.traces ran
    (λ done n. going (g.T.Tables.stack c.each.tables).top c.each.left c.each.traces n) (Ok tt) c.each.left c.each.traces (g.P.Stop.looks c.each.stop)
    (subst (λ x. Follows {A = Unit {0}} (λ done n. going (g.T.Tables.stack c.each.tables).top c.each.left c.each.traces n) (k + ran.0) (g.P.Stop.looks c.run_all.new.stop) (g.P.Stop.looks c.each.stop) (in_turn (act (codes_with accepts) (scene_of c.args.scene.now) (c.args.free - 1) (c.args.depth + 1)) x c.in-Ok.asked.senders (going (g.T.Tables.stack c.run_all.new.tables).top c.run_all.new.left c.run_all.new.traces (k + ran.0))) (Ok tt) c.each.left c.each.traces) sl
    (subst (λ y. Follows {A = Unit {0}} (λ done n. going (g.T.Tables.stack c.each.tables).top c.each.left c.each.traces n) (k + ran.0) (g.P.Stop.looks c.run_all.new.stop) (g.P.Stop.looks c.each.stop) (in_turn (act (codes_with accepts) (scene_of c.args.scene.now) (c.args.free - 1) (c.args.depth + 1)) c.as_slice-actions.result.now y (going (g.T.Tables.stack c.run_all.new.tables).top c.run_all.new.left c.run_all.new.traces (k + ran.0))) (Ok tt) c.each.left c.each.traces) ss
    (all_done (act (codes_with accepts) (scene_of c.args.scene.now) (c.args.free - 1) (c.args.depth + 1)) c.as_slice-actions.result.now c.as_slice-senders.result.now (λ n. going (g.T.Tables.stack c.run_all.new.tables).top c.run_all.new.left c.run_all.new.traces n) (g.P.Stop.looks c.run_all.new.stop) (g.P.Stop.looks c.each.stop) (λ n. going (g.T.Tables.stack c.each.tables).top c.each.left c.each.traces n) c.each.left c.each.traces (λ done n. going (g.T.Tables.stack c.each.tables).top c.each.left c.each.traces n) (λ n. refl)
    c.each.actions.now c.each.senders.now (inr none) (c.each.invariant.0 accepts a) (k + ran.0))))

pub returns-clause-follows : goal.returns-clause-follows
returns-clause-follows g m c = λ accepts a k.
    let empty : length c.each.actions.now ≡ 0 = search rules in
    let none = none_of c.each.actions.now empty in
    let sl : c.as_slice-actions.result.now ≡ c.in-Ok.asked.inlines = c.as_slice-actions.ensures in
    let ss : c.as_slice-senders.result.now ≡ c.in-Ok.asked.senders = c.as_slice-senders.ensures in
    let ran = (subst (λ r. Follows {A = Asked} (λ b n. (b, going (g.T.Tables.stack c.run_all.new.tables).top c.run_all.new.left c.run_all.new.traces n)) k (g.P.Stop.looks c.args.stop.now) (g.P.Stop.looks c.run_all.new.stop) (all_runs (codes_with accepts) (scene_of c.args.scene.now) c.args.depth c.args.action.now c.args.by (going (g.T.Tables.stack c.args.tables.now).top c.args.left.now c.args.traces.now k)) r c.run_all.new.left c.run_all.new.traces)
    c.in-Ok.is (c.run_all.ensures.follows accepts a k)) in
    after_runs (codes_with accepts) (scene_of c.args.scene.now) c.args.depth c.args.action.now c.args.by (λ n. going (g.T.Tables.stack c.args.tables.now).top c.args.left.now c.args.traces.now n) c.args.free (λ e. omega (arith, e, c.if-free-eq0.false)) (g.P.Stop.looks c.args.stop.now) (g.P.Stop.looks c.run_all.new.stop) (λ n. going (g.T.Tables.stack c.run_all.new.tables).top c.run_all.new.left c.run_all.new.traces n) k c.in-Ok.asked c.run_all.new.left c.run_all.new.traces ran
    (λ done n. going (g.T.Tables.stack c.each.tables).top c.each.left c.each.traces n) (Ok tt) c.each.left c.each.traces (g.P.Stop.looks c.each.stop)
    (subst (λ x. Follows {A = Unit {0}} (λ done n. going (g.T.Tables.stack c.each.tables).top c.each.left c.each.traces n) (k + ran.0) (g.P.Stop.looks c.run_all.new.stop) (g.P.Stop.looks c.each.stop) (in_turn (act (codes_with accepts) (scene_of c.args.scene.now) (c.args.free - 1) (c.args.depth + 1)) x c.in-Ok.asked.senders (going (g.T.Tables.stack c.run_all.new.tables).top c.run_all.new.left c.run_all.new.traces (k + ran.0))) (Ok tt) c.each.left c.each.traces) sl
    (subst (λ y. Follows {A = Unit {0}} (λ done n. going (g.T.Tables.stack c.each.tables).top c.each.left c.each.traces n) (k + ran.0) (g.P.Stop.looks c.run_all.new.stop) (g.P.Stop.looks c.each.stop) (in_turn (act (codes_with accepts) (scene_of c.args.scene.now) (c.args.free - 1) (c.args.depth + 1)) c.as_slice-actions.result.now y (going (g.T.Tables.stack c.run_all.new.tables).top c.run_all.new.left c.run_all.new.traces (k + ran.0))) (Ok tt) c.each.left c.each.traces) ss
    (all_done (act (codes_with accepts) (scene_of c.args.scene.now) (c.args.free - 1) (c.args.depth + 1)) c.as_slice-actions.result.now c.as_slice-senders.result.now (λ n. going (g.T.Tables.stack c.run_all.new.tables).top c.run_all.new.left c.run_all.new.traces n) (g.P.Stop.looks c.run_all.new.stop) (g.P.Stop.looks c.each.stop) (λ n. going (g.T.Tables.stack c.each.tables).top c.each.left c.each.traces n) c.each.left c.each.traces (λ done n. going (g.T.Tables.stack c.each.tables).top c.each.left c.each.traces n) (λ n. refl)
    c.each.actions.now c.each.senders.now (inl none) (c.each.invariant.0 accepts a) (k + ran.0))))

pub returns-in-Err-act-clause-follows : goal.returns-in-Err-act-clause-follows
returns-in-Err-act-clause-follows g m c = λ accepts a k.
    let ea : c.each.actions.now ≡ c.in-Some.inline.now ∷ c.in-Some.more.now = search rules in
    let es : c.each.senders.now ≡ c.in-Some-split_first.sender.now ∷ c.in-Some-split_first.others.now = search rules in
    let sl : c.as_slice-actions.result.now ≡ c.in-Ok.asked.inlines = c.as_slice-actions.ensures in
    let ss : c.as_slice-senders.result.now ≡ c.in-Ok.asked.senders = c.as_slice-senders.ensures in
    let ran = (subst (λ r. Follows {A = Asked} (λ b n. (b, going (g.T.Tables.stack c.run_all.new.tables).top c.run_all.new.left c.run_all.new.traces n)) k (g.P.Stop.looks c.args.stop.now) (g.P.Stop.looks c.run_all.new.stop) (all_runs (codes_with accepts) (scene_of c.args.scene.now) c.args.depth c.args.action.now c.args.by (going (g.T.Tables.stack c.args.tables.now).top c.args.left.now c.args.traces.now k)) r c.run_all.new.left c.run_all.new.traces)
    c.in-Ok.is (c.run_all.ensures.follows accepts a k)) in
    after_runs (codes_with accepts) (scene_of c.args.scene.now) c.args.depth c.args.action.now c.args.by (λ n. going (g.T.Tables.stack c.args.tables.now).top c.args.left.now c.args.traces.now n) c.args.free (λ e. omega (arith, e, c.if-free-eq0.false)) (g.P.Stop.looks c.args.stop.now) (g.P.Stop.looks c.run_all.new.stop) (λ n. going (g.T.Tables.stack c.run_all.new.tables).top c.run_all.new.left c.run_all.new.traces n) k c.in-Ok.asked c.run_all.new.left c.run_all.new.traces ran
    (λ done n. going (g.T.Tables.stack c.act.new.tables).top c.act.new.left c.act.new.traces n) (Err c.in-Err-act.end) c.act.new.left c.act.new.traces (g.P.Stop.looks c.act.new.stop)
    (subst (λ x. Follows {A = Unit {0}} (λ done n. going (g.T.Tables.stack c.act.new.tables).top c.act.new.left c.act.new.traces n) (k + ran.0) (g.P.Stop.looks c.run_all.new.stop) (g.P.Stop.looks c.act.new.stop) (in_turn (act (codes_with accepts) (scene_of c.args.scene.now) (c.args.free - 1) (c.args.depth + 1)) x c.in-Ok.asked.senders (going (g.T.Tables.stack c.run_all.new.tables).top c.run_all.new.left c.run_all.new.traces (k + ran.0))) (Err c.in-Err-act.end) c.act.new.left c.act.new.traces) sl
    (subst (λ y. Follows {A = Unit {0}} (λ done n. going (g.T.Tables.stack c.act.new.tables).top c.act.new.left c.act.new.traces n) (k + ran.0) (g.P.Stop.looks c.run_all.new.stop) (g.P.Stop.looks c.act.new.stop) (in_turn (act (codes_with accepts) (scene_of c.args.scene.now) (c.args.free - 1) (c.args.depth + 1)) c.as_slice-actions.result.now y (going (g.T.Tables.stack c.run_all.new.tables).top c.run_all.new.left c.run_all.new.traces (k + ran.0))) (Err c.in-Err-act.end) c.act.new.left c.act.new.traces) ss
    (one_failed (act (codes_with accepts) (scene_of c.args.scene.now) (c.args.free - 1) (c.args.depth + 1)) c.as_slice-actions.result.now c.as_slice-senders.result.now (λ n. going (g.T.Tables.stack c.run_all.new.tables).top c.run_all.new.left c.run_all.new.traces n) (g.P.Stop.looks c.run_all.new.stop) (λ done n. going (g.T.Tables.stack c.act.new.tables).top c.act.new.left c.act.new.traces n) c.in-Some.inline.now c.in-Some.more.now
    c.in-Some-split_first.sender.now c.in-Some-split_first.others.now (λ n. going (g.T.Tables.stack c.each.tables).top c.each.left c.each.traces n) (g.P.Stop.looks c.each.stop) (g.P.Stop.looks c.act.new.stop) c.in-Err-act.end c.act.new.left c.act.new.traces
    (subst (λ x. InTurn (act (codes_with accepts) (scene_of c.args.scene.now) (c.args.free - 1) (c.args.depth + 1)) c.as_slice-actions.result.now c.as_slice-senders.result.now (λ n. going (g.T.Tables.stack c.run_all.new.tables).top c.run_all.new.left c.run_all.new.traces n) (g.P.Stop.looks c.run_all.new.stop) x (c.in-Some-split_first.sender.now ∷ c.in-Some-split_first.others.now) (λ n. going (g.T.Tables.stack c.each.tables).top c.each.left c.each.traces n) (g.P.Stop.looks c.each.stop)) ea
    (subst (λ y. InTurn (act (codes_with accepts) (scene_of c.args.scene.now) (c.args.free - 1) (c.args.depth + 1)) c.as_slice-actions.result.now c.as_slice-senders.result.now (λ n. going (g.T.Tables.stack c.run_all.new.tables).top c.run_all.new.left c.run_all.new.traces n) (g.P.Stop.looks c.run_all.new.stop) c.each.actions.now y (λ n. going (g.T.Tables.stack c.each.tables).top c.each.left c.each.traces n) (g.P.Stop.looks c.each.stop)) es (c.each.invariant.0 accepts a)))
    (λ k. subst (λ r. Follows {A = Unit {0}} (λ done n. going (g.T.Tables.stack c.act.new.tables).top c.act.new.left c.act.new.traces n) k (g.P.Stop.looks c.each.stop) (g.P.Stop.looks c.act.new.stop)
    ((act (codes_with accepts) (scene_of c.args.scene.now) (c.args.free - 1) (c.args.depth + 1)) c.in-Some.inline.now c.in-Some-split_first.sender.now (going (g.T.Tables.stack c.each.tables).top c.each.left c.each.traces k)) r c.act.new.left c.act.new.traces) c.in-Err-act.is (c.act.ensures.follows accepts a k)) (k + ran.0))))

pub returns-in-Err-act-clause-reaches : goal.returns-in-Err-act-clause-reaches
returns-in-Err-act-clause-reaches g m c = reaches_both g.P.Stop.may c.args.stop.now c.each.stop c.act.new.stop c.each.invariant.3 c.act.ensures.reaches

pub returns-in-Err-act-clause-cut : goal.returns-in-Err-act-clause-cut
returns-in-Err-act-clause-cut g m c = λ at e. asked_after g.P.Stop.may c.args.stop.now c.each.stop c.act.new.stop at c.each.invariant.3 (c.act.ensures.cut at (c.in-Err-act.is ∙ e))

pub each-preserved : goal.each-preserved
each-preserved g m c = (
  λ accepts a.
      let ea : c.each.actions.now ≡ c.in-Some.inline.now ∷ c.in-Some.more.now = search rules in
      let es : c.each.senders.now ≡ c.in-Some-split_first.sender.now ∷ c.in-Some-split_first.others.now = search rules in
      one_done (act (codes_with accepts) (scene_of c.args.scene.now) (c.args.free - 1) (c.args.depth + 1)) c.as_slice-actions.result.now c.as_slice-senders.result.now (λ n. going (g.T.Tables.stack c.run_all.new.tables).top c.run_all.new.left c.run_all.new.traces n) (g.P.Stop.looks c.run_all.new.stop) c.in-Some.inline.now c.in-Some.more.now
      c.in-Some-split_first.sender.now c.in-Some-split_first.others.now (λ n. going (g.T.Tables.stack c.each.tables).top c.each.left c.each.traces n) (λ n. going (g.T.Tables.stack c.act.new.tables).top c.act.new.left c.act.new.traces n) (g.P.Stop.looks c.each.stop) (g.P.Stop.looks c.act.new.stop)
      (subst (λ x. InTurn (act (codes_with accepts) (scene_of c.args.scene.now) (c.args.free - 1) (c.args.depth + 1)) c.as_slice-actions.result.now c.as_slice-senders.result.now (λ n. going (g.T.Tables.stack c.run_all.new.tables).top c.run_all.new.left c.run_all.new.traces n) (g.P.Stop.looks c.run_all.new.stop) x (c.in-Some-split_first.sender.now ∷ c.in-Some-split_first.others.now) (λ n. going (g.T.Tables.stack c.each.tables).top c.each.left c.each.traces n) (g.P.Stop.looks c.each.stop)) ea
      (subst (λ y. InTurn (act (codes_with accepts) (scene_of c.args.scene.now) (c.args.free - 1) (c.args.depth + 1)) c.as_slice-actions.result.now c.as_slice-senders.result.now (λ n. going (g.T.Tables.stack c.run_all.new.tables).top c.run_all.new.left c.run_all.new.traces n) (g.P.Stop.looks c.run_all.new.stop) c.each.actions.now y (λ n. going (g.T.Tables.stack c.each.tables).top c.each.left c.each.traces n) (g.P.Stop.looks c.each.stop)) es (c.each.invariant.0 accepts a)))
      (λ k. subst (λ r. Follows {A = Unit {0}} (λ done n. going (g.T.Tables.stack c.act.new.tables).top c.act.new.left c.act.new.traces n) k (g.P.Stop.looks c.each.stop) (g.P.Stop.looks c.act.new.stop)
      ((act (codes_with accepts) (scene_of c.args.scene.now) (c.args.free - 1) (c.args.depth + 1)) c.in-Some.inline.now c.in-Some-split_first.sender.now (going (g.T.Tables.stack c.each.tables).top c.each.left c.each.traces k)) r c.act.new.left c.act.new.traces) c.in_default-act.is (c.act.ensures.follows accepts a k)),
  omega (arith, c.each.invariant.1, c.in_default-act.ensures.small),
  c.act.ensures.base ∙ c.each.invariant.2,
  reaches_both g.P.Stop.may c.args.stop.now c.each.stop c.act.new.stop c.each.invariant.3 c.act.ensures.reaches,
)
