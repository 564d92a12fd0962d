use Rattle.std.proofs.Common.{ℕ, List, subst}
use Rattle.ante_types.specs.declared.context.Mode.{Mode}
use Rattle.ante_execution.specs.Actions.{nobody, act, apply}
use Rattle.ante_execution.specs.Codes.{codes_with}
use Rattle.ante_apply.specs.Going.{going, Follows}
use Rattle.ante_apply.specs.Scenes.{mode_of, scene_with}
use Rattle.ante_apply.proofs.action.apply_action.Goals as goal

pub returns-clause-follows : goal.returns-clause-follows
unfolding apply
returns-clause-follows g c = λ accepts a k.
    let start = going (g.T.Tables.stack c.args.tables.now).top c.args.left.now c.args.traces.now k in
    subst (λ (m : Mode). Follows {A = Unit {0}} (λ done n. going (g.T.Tables.stack c.act.new.tables).top c.act.new.left c.act.new.traces n) k
    (g.P.Stop.looks c.args.stop.now) (g.P.Stop.looks c.act.new.stop)
    (act (codes_with accepts) (scene_with m c.args.slot c.args.packed.now) 5 0 c.args.action.now nobody start) c.act.result c.act.new.left c.act.new.traces) c.mode_of.ensures
    (subst (λ (p : List ℕ). Follows {A = Unit {0}} (λ done n. going (g.T.Tables.stack c.act.new.tables).top c.act.new.left c.act.new.traces n) k
    (g.P.Stop.looks c.args.stop.now) (g.P.Stop.looks c.act.new.stop)
    (act (codes_with accepts) (scene_with c.mode_of.result c.args.slot p) 5 0 c.args.action.now nobody start) c.act.result c.act.new.left c.act.new.traces) c.as_slice.ensures
    (c.act.ensures.follows accepts a k))
