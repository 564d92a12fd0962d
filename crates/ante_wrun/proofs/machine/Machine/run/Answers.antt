use Rattle.std.proofs.Common.{sym, subst}
use Rattle.ante_wtree.specs.Trees.{tree_of}
use Rattle.ante_wmeaning.specs.Environment.{Environment, Begins, past, ByEvents}
use Rattle.ante_wmeaning.specs.HostConditions.{MayCall, ImportsTyped}
use Rattle.ante_wmeaning.specs.Instantiation.{program_in}
use Rattle.ante_wmeaning.specs.Invocation.{run_of}
use Rattle.ante_wmeaning.specs.RunEnds.{RunAnswers}
use Rattle.ante_wmeaning.proofs.Answered.{counted, comes, cuts, uncut, limit, undisturbed_ends}
use Rattle.ante_wmeaning.proofs.Falls.{run_lowers}
use Rattle.ante_wmeaning.proofs.Looking.{none_yet, run_quiet}
use Rattle.ante_wrun.proofs.machine.Machine.run.Goals as goal

pub run_module-requires-clause-allowed : goal.run_module-requires-clause-allowed
run_module-requires-clause-allowed g c = subst (λ m. MayCall g.H.Host.allowed (program_in (tree_of m)) c.args.host.now c.args.left.now) (sym c.module.ensures.module) c.requires.allowed

pub run_module-requires-clause-answers : goal.run_module-requires-clause-answers
run_module-requires-clause-answers g c = subst (λ m. ImportsTyped g.H.Host.allowed g.H.Host.meaning (program_in (tree_of m))) (sym c.module.ensures.module) c.requires.answers

pub returns-clause-ends : goal.returns-clause-ends
returns-clause-ends g c =
    let h = subst (λ m. ByEvents g.P.Stop.may c.args.stop.now c.run_module.new.stop (λ events. (v : Environment) → Begins v events →
    RunAnswers g.H.Host.stands (run_of g.H.Host.meaning (tree_of m) c.args.args c.args.host.now c.args.left.now v) c.run_module.result c.run_module.new.host c.run_module.new.left (past v events)))
    c.module.ensures.module c.run_module.ensures.ends in
    (h.0, h.1, λ v b. (h.2 v b, counted g.P.Stop.may g.P.Stop.looks g.met.P.Stop.counted h.0 c.args.stop.now c.run_module.new.stop h.1 v))

pub returns-clause-comes : goal.returns-clause-comes
returns-clause-comes g c =
    let F = λ (v : Environment). run_of g.H.Host.meaning (tree_of c.args.module.now) c.args.args c.args.host.now c.args.left.now v in
    comes g.H.Host.stands g.P.Stop.may c.args.stop.now c.run_module.new.stop F c.run_module.new.host c.run_module.new.left c.run_module.result
    (subst (λ m. ByEvents g.P.Stop.may c.args.stop.now c.run_module.new.stop (λ events. (v : Environment) → Begins v events →
    RunAnswers g.H.Host.stands (run_of g.H.Host.meaning (tree_of m) c.args.args c.args.host.now c.args.left.now v) c.run_module.result c.run_module.new.host c.run_module.new.left (past v events)))
    c.module.ensures.module c.run_module.ensures.ends)

pub returns-clause-cut : goal.returns-clause-cut
returns-clause-cut g c = λ at is.
    let m = tree_of c.args.module.now in
    let F = λ (v : Environment). run_of g.H.Host.meaning m c.args.args c.args.host.now c.args.left.now v in
    cuts g.H.Host.stands g.P.Stop.may c.args.stop.now c.run_module.new.stop F c.run_module.new.host c.run_module.new.left
    (λ v e. run_quiet g.H.Host.meaning m c.args.args c.args.host.now c.args.left.now v (none_yet v e)) c.run_module.result at is
    (subst (λ m. ByEvents g.P.Stop.may c.args.stop.now c.run_module.new.stop (λ events. (v : Environment) → Begins v events →
    RunAnswers g.H.Host.stands (run_of g.H.Host.meaning (tree_of m) c.args.args c.args.host.now c.args.left.now v) c.run_module.result c.run_module.new.host c.run_module.new.left (past v events)))
    c.module.ensures.module c.run_module.ensures.ends)

pub returns-clause-uncut : goal.returns-clause-uncut
returns-clause-uncut g c = λ not.
    let m = tree_of c.args.module.now in
    let F = λ (v : Environment). run_of g.H.Host.meaning m c.args.args c.args.host.now c.args.left.now v in
    uncut g.H.Host.stands g.P.Stop.may c.args.stop.now c.run_module.new.stop F c.run_module.new.host c.run_module.new.left
    (λ v e. run_quiet g.H.Host.meaning m c.args.args c.args.host.now c.args.left.now v (none_yet v e)) c.run_module.result not
    (subst (λ m. ByEvents g.P.Stop.may c.args.stop.now c.run_module.new.stop (λ events. (v : Environment) → Begins v events →
    RunAnswers g.H.Host.stands (run_of g.H.Host.meaning (tree_of m) c.args.args c.args.host.now c.args.left.now v) c.run_module.result c.run_module.new.host c.run_module.new.left (past v events)))
    c.module.ensures.module c.run_module.ensures.ends)

pub returns-clause-limit : goal.returns-clause-limit
returns-clause-limit g c = λ is.
    let m = tree_of c.args.module.now in
    let F = λ (v : Environment). run_of g.H.Host.meaning m c.args.args c.args.host.now c.args.left.now v in
    limit g.H.Host.stands g.P.Stop.may c.args.stop.now c.run_module.new.stop F c.run_module.new.host c.run_module.new.left
    c.args.left.now (λ v. run_lowers g.H.Host.meaning g.met.H.Host.falls m c.args.args c.args.host.now c.args.left.now v) c.run_module.result is
    (subst (λ m. ByEvents g.P.Stop.may c.args.stop.now c.run_module.new.stop (λ events. (v : Environment) → Begins v events →
    RunAnswers g.H.Host.stands (run_of g.H.Host.meaning (tree_of m) c.args.args c.args.host.now c.args.left.now v) c.run_module.result c.run_module.new.host c.run_module.new.left (past v events)))
    c.module.ensures.module c.run_module.ensures.ends)

pub returns-clause-undisturbed : goal.returns-clause-undisturbed
returns-clause-undisturbed g c = λ not.
    undisturbed_ends g.H.Host.stands g.P.Stop.may g.P.Stop.looks g.met.P.Stop.counted c.args.stop.now c.run_module.new.stop g.H.Host.meaning (tree_of c.args.module.now) c.args.args c.args.host.now c.args.left.now
    c.run_module.result c.run_module.new.host c.run_module.new.left not
    (subst (λ m. ByEvents g.P.Stop.may c.args.stop.now c.run_module.new.stop (λ events. (v : Environment) → Begins v events →
    RunAnswers g.H.Host.stands (run_of g.H.Host.meaning (tree_of m) c.args.args c.args.host.now c.args.left.now v) c.run_module.result c.run_module.new.host c.run_module.new.left (past v events)))
    c.module.ensures.module c.run_module.ensures.ends)
