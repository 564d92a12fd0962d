use Rattle.std.proofs.Common.{ap, subst, ◌∙◌, ◌+◌, ◌-◌, length, Err}
use Rattle.ante_calls.specs.Views.{said}
use Rattle.ante_execution.specs.Actions.{context_of, run_one}
use Rattle.ante_execution.specs.Codes.{codes_with}
use Rattle.ante_execution.specs.declared.jobs.Asked.{Asked}
use Rattle.ante_execution.specs.Runs.{runs}
use Rattle.ante_apply.specs.Going.{going, Closes}
use Rattle.ante_apply.specs.Runs.{seen, RunsTo}
use Rattle.ante_apply.specs.Scenes.{asked_after, said_trace, scene_of}
use Rattle.ante_apply.proofs.Coming.{unfailed, run_ended, one_closed}
use Rattle.ante_apply.proofs.one.run_one.Goals as goal

pub returns-in-Err-clause-follows : goal.returns-in-Err-clause-follows
returns-in-Err-clause-follows g c = λ accepts a k.
    run_ended {A = Asked} (λ b n. (b, going (g.T.Tables.stack c.run-ended.new.tables).top c.run-ended.new.left c.args.traces.now n)) k
    (g.P.Stop.looks c.args.stop.now) (g.P.Stop.looks c.run-ended.new.stop)
    (run_one (codes_with accepts) (scene_of c.args.scene.now) c.args.action.now c.args.job c.args.asked
    (going (g.T.Tables.stack c.args.tables.now).top c.args.left.now c.args.traces.now k))
    c.run-ended.new.left c.args.traces.now c.in-Err.end
    (λ f e. unfailed _ _ _ c.run-ended.result _ _ (c.run-ended.ensures.runs accepts a) f (c.in-Err.is ∙ ap Err e))

pub returns-clause-follows : goal.returns-clause-follows
returns-clause-follows g c = λ accepts a k.
    let top = (g.T.Tables.stack c.args.tables.now).top in
    let last = (g.T.Tables.stack c.run-ended.new.tables).top in
    let old = g.P.Stop.looks c.args.stop.now in
    let new = g.P.Stop.looks c.run-ended.new.stop in
    let scene = scene_of c.args.scene.now in
    let ended = c.in-Ok.ended in
    let left = c.run-ended.new.left in
    let before = c.args.traces.now in
    let after = c.close.new.traces in
    let context = c.in_ok-context.context in
    let is = c.in_ok-context.ensures ∙ ap (λ r. context_of scene c.args.action.now c.args.job r) c.replace-recipients.ensures.value in
    one_closed (codes_with accepts) scene c.args.action.now c.args.job c.args.asked top c.args.left.now before k old new context is last left after ended c.close.result
    (subst (λ r. RunsTo (runs (codes_with accepts) (seen top context c.args.scene.now.packed.now) c.args.left.now) old new r last left) c.in-Ok.is (c.run-ended.ensures.runs accepts a))
    (subst (λ n. Closes ended (said_trace c.args.action.now c.args.job (n + 1) (said ended.1) (c.args.left.now - left))
    (asked_after c.args.job (n + 1) (length c.args.asked.recipients) c.args.asked ended.1.recipients ended.1.inlines) before c.close.result after) c.len.ensures
    (subst (λ h. Closes ended (said_trace c.args.action.now c.args.job (c.len.result + 1) (said ended.1) (c.args.left.now - left))
    (asked_after c.args.job (c.len.result + 1) h c.args.asked ended.1.recipients ended.1.inlines) before c.close.result after) c.len-had.ensures
    c.close.ensures.closes))
