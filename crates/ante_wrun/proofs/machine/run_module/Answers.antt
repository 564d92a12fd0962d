use Rattle.std.proofs.Common.{[], ◌∷◌, length, refl, ap, subst, ◌∙◌}
use Rattle.std.proofs.lemmas.List.{length-map}
use Rattle.ante_wtree.specs.Trees.{tree_of}
use Rattle.ante_wmeaning.specs.declared.ends.TrapKind.TheVariants as trap
use Rattle.ante_wmeaning.specs.declared.ends.RunEnd.TheVariants as end
use Rattle.ante_wmeaning.specs.Environment.{after_item}
use Rattle.ante_wvalues.specs.PlainSteps.{values_of}
use Rattle.ante_wrun.specs.Control.{program_of}
use Rattle.ante_wmeaning.specs.Environment.{Supplied, past}
use Rattle.ante_wmeaning.specs.RunEnds.{Ends}
use Rattle.ante_wmeaning.specs.Instantiation.{constant}
use Rattle.ante_wmeaning.specs.RunEnds.{RunAnswers}
use Rattle.ante_wrun.specs.InstanceAndCalls.{IsInstance}
use Rattle.ante_wrun.proofs.Whole.{unfit, runs_as}
use Rattle.ante_wrun.proofs.machine.run_module.Goals as goal

pub returns-in_default-clause-ends : goal.returns-in_default-clause-ends
returns-in_default-clause-ends g c =
    let m = tree_of c.args.module.now in
    let fit = subst (IsInstance m) c.in_default.is c.in_ok-instance.ensures in (
      Supplied ∷ [],
      refl,
      λ v b. subst (Ends g.H.Host.stands (end.Trap trap.OutOfBounds) c.args.host.now c.args.left.now (after_item v))
          (unfit g.H.Host.meaning m c.args.args.now c.args.host.now c.args.left.now v b.0 fit) (refl, refl, refl, refl),
    )

pub returns-clause-ends : goal.returns-clause-ends
returns-clause-ends g c =
    let m = tree_of c.args.module.now in
    let made = subst (IsInstance m) c.in-Some.is c.in_ok-instance.ensures in
    let h = c.call_both.ensures.ends in (
      Supplied ∷ h.0,
      h.1,
      λ v b. subst (λ o. RunAnswers g.H.Host.stands o c.call_both.result c.call_both.new.host c.call_both.new.left (past (after_item v) h.0))
          (runs_as g.H.Host.meaning m c.args.args.now (program_of c.in-Some.instance.functions) (values_of c.in-Some.instance.data) c.args.host.now c.args.left.now v b.0 made.0 made.1 made.2) (h.2 (after_item v) b.1),
    )

pub call_both-requires-clause-globals : goal.call_both-requires-clause-globals
call_both-requires-clause-globals g c =
    let m = tree_of c.args.module.now in
    let made = subst (IsInstance m) c.in-Some.is c.in_ok-instance.ensures in
    ap (λ v. length v.globals) made.2 ∙ length-map m.globals (λ x. constant x.init)
