use Rattle.std.proofs.Common.{[], ◌∷◌, ◌++◌, Some, None, sym, refl, subst}
use Rattle.ante_base.specs.Stops.{Looks}
use Rattle.ante_window_tests.proofs.Looking.{look_then}
use Rattle.ante_window_tests.proofs.jobs.BenchReadState.read.Goals.{then-step-eq0+in_default, else-step-eq0}
use Rattle.ante_window_tests.proofs.jobs.BenchReadState.read.Goals as goal

pub returns-in-Some : goal.returns-in-Some
returns-in-Some g c =
    let l = c.loop-step in (
      l.invariant.0 ++ Some c.in-Some.at ∷ [],
      look_then g.P.Stop.may c.args.stop.now l.stop c.look.new.self l.invariant.0 (Some c.in-Some.at) l.invariant.1 c.in-Some.ensures.answer,
      (l.invariant.0, refl),
    )

pub loop-step-preserved : goal.loop-step-preserved
loop-step-preserved g c =
    let l = c.loop-step in
    elim c.if-step-eq0.branch [
      | then-step-eq0+in_default w ↦ (
        l.invariant.0 ++ None ∷ [],
        subst (λ s. Looks g.P.Stop.may c.args.stop.now (l.invariant.0 ++ None ∷ []) s) (sym w.stop-is)
            (look_then g.P.Stop.may c.args.stop.now l.stop w.look.new.self l.invariant.0 None l.invariant.1 w.in_default.ensures.answer),
      )
      | else-step-eq0 w ↦ (l.invariant.0, subst (λ s. Looks g.P.Stop.may c.args.stop.now l.invariant.0 s) (sym w.stop-is) l.invariant.1)
    ]
