use Rattle.std.proofs.Common.{sym, subst}
use Rattle.ante_wtree.specs.Expressions.{expression_of}
use Rattle.ante_wmeaning.specs.Execution.{acts, call}
use Rattle.ante_wrun.specs.ThreadStates.{state_of, under}
use Rattle.ante_wmeaning.specs.RunEnds.{NotStuck}
use Rattle.ante_wrun.specs.Stretches.{BranchLeads}
use Rattle.ante_wrun.proofs.blocks.control_within.Goals as goal

pub begin_body-requires : goal.begin_body-requires
begin_body-requires g c =
    let q = c.requires in
    let v = c.args.values.now in
    (q.0, q.1, q.2, q.3, q.4, q.5, q.6, subst (λ x. NotStuck (under g.H.Host.meaning q.0 q.2 v.below c.args.frames.now (acts q.0 (call g.H.Host.meaning q.0 q.2) x (state_of (record q.6 { values = v }) q.1 q.3 q.4 q.5)))) (c.shape_of-shape.ensures (expression_of c.args.rest.now)) q.7)

pub branch_within-requires : goal.branch_within-requires
branch_within-requires g c =
    let q = c.requires in
    let v = c.args.values.now in
    (q.0, q.1, q.2, q.3, q.4, q.5, q.6, subst (λ x. NotStuck (under g.H.Host.meaning q.0 q.2 v.below c.args.frames.now (acts q.0 (call g.H.Host.meaning q.0 q.2) x (state_of (record q.6 { values = v }) q.1 q.3 q.4 q.5)))) (c.shape_of-shape.ensures (expression_of c.args.rest.now)) q.7)

pub returns-in-Block-clause-leads : goal.returns-in-Block-clause-leads
returns-in-Block-clause-leads g c = λ program w free left last o d.
    let v = c.args.values.now in
    subst (λ x. BranchLeads g.H.Host.meaning program free c.begin_body.new.frames (under g.H.Host.meaning program free v.below c.args.frames.now (acts program (call g.H.Host.meaning program free) x (state_of (record d { values = v }) w left last o)))
    c.begin_body.result c.begin_body.new.values (state_of (record d { values = c.begin_body.new.values }) w left last o))
    (sym (c.shape_of-shape.ensures (expression_of c.args.rest.now))) (c.begin_body.ensures.leads program w free left last o d)

pub returns-in-Br-clause-leads : goal.returns-in-Br-clause-leads
returns-in-Br-clause-leads g c = λ program w free left last o d.
    let v = c.args.values.now in
    subst (λ x. BranchLeads g.H.Host.meaning program free c.branch_within.new.frames (under g.H.Host.meaning program free v.below c.args.frames.now (acts program (call g.H.Host.meaning program free) x (state_of (record d { values = v }) w left last o)))
    c.branch_within.result c.branch_within.new.values (state_of (record d { values = c.branch_within.new.values }) w left last o))
    (sym (c.shape_of-shape.ensures (expression_of c.args.rest.now))) (c.branch_within.ensures.leads program w free left last o d)
