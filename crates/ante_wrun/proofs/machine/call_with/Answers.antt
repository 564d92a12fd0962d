use Rattle.std.proofs.Common.{◌≡◌, Some, Ok, [], refl, ap, sym, subst, ◌∙◌}
use Rattle.std.proofs.lemmas.Result.{err_from_is_err_and}
use Rattle.ante_wmeaning.specs.declared.ends.RunEnd.TheVariants as end
use Rattle.ante_wmeaning.specs.Configurations.{Normal}
use Rattle.ante_wmeaning.specs.Execution.{settled, call, invoked}
use Rattle.ante_wrun.specs.ThreadStates.{state_of}
use Rattle.ante_wrun.specs.Control.{program_of}
use Rattle.ante_wmeaning.specs.Environment.{past, Wanting}
use Rattle.ante_wmeaning.specs.RunEnds.{Ends, Lacking, NotStuck}
use Rattle.ante_wrun.specs.InstructionCycle.{RunLeads}
use Rattle.ante_wtree.specs.Limits.{most_frames}
use Rattle.ante_wmeaning.specs.Invocation.{with_arguments, called_with}
use Rattle.ante_wrun.proofs.Whole.{wanted_first, call_lacks, called_as, recalled}
use Rattle.ante_wrun.proofs.machine.call_with.Goals as goal

pub returns-in_err-values-clause-leads : goal.returns-in_err-values-clause-leads
returns-in_err-values-clause-leads g c =
    let P = program_of c.args.functions.now in
    let p = err_from_is_err_and c.from_residual.result c.from_residual.ensures.1 in
    call_lacks g.H.Host.stands g.P.Stop.may c.args.stop.now c.args.stop.now (λ v. called_with g.H.Host.meaning P c.args.args.now c.args.function (state_of c.args.state c.args.host.now c.args.left.now c.args.last.now v))
    c.from_residual.result p.0 c.args.host.now c.args.left.now c.args.last.now p.1
    ([], refl, λ v b. wanted_first g.H.Host.stands (with_arguments c.args.args.now (state_of c.args.state c.args.host.now c.args.left.now c.args.last.now v)) (λ t. settled (call g.H.Host.meaning P most_frames c.args.function t)))

pub returns-in_err-ended-clause-leads : goal.returns-in_err-ended-clause-leads
returns-in_err-ended-clause-leads g c =
    let P = program_of c.args.functions.now in
    let p = err_from_is_err_and c.from_residual-in_err-ended.result c.from_residual-in_err-ended.ensures.1 in
    call_lacks g.H.Host.stands g.P.Stop.may c.args.stop.now c.invoke.new.stop (λ v. called_with g.H.Host.meaning P c.args.args.now c.args.function (state_of c.args.state c.args.host.now c.args.left.now c.args.last.now v))
    c.from_residual-in_err-ended.result p.0 c.invoke.new.host c.invoke.new.left c.invoke.new.last p.1
    (recalled g.H.Host.meaning P g.P.Stop.may c.args.stop.now c.invoke.new.stop c.args.state c.in_ok-values.values c.most_frames.result c.args.args.now c.args.function c.args.host.now c.args.left.now c.args.last.now
    c.in_ok-values.ensures c.most_frames.ensures (λ o u. Wanting u → Lacking g.H.Host.stands c.invoke.new.host c.invoke.new.left u o)
    c.in_err-ended.ensures.leads)

pub returns-in-Some-clause-leads : goal.returns-in-Some-clause-leads
returns-in-Some-clause-leads g c =
    let P = program_of c.args.functions.now in
    recalled g.H.Host.meaning P g.P.Stop.may c.args.stop.now c.invoke.new.stop c.args.state c.in_ok-values.values c.most_frames.result c.args.args.now c.args.function c.args.host.now c.args.left.now c.args.last.now
    c.in_ok-values.ensures c.most_frames.ensures (λ o u. Ends g.H.Host.stands c.in-Some.end c.invoke.new.host c.invoke.new.left u o × (c.in-Some.end ≡ end.Done → ⊥))
    (let h = c.in_ok-ended.ensures.leads in (
      h.0,
      h.1,
      λ v b. (
        subst (λ x. RunLeads g.H.Host.stands (invoked g.H.Host.meaning P c.most_frames.result c.args.function (state_of (record c.args.state { values = c.in_ok-values.values }) c.args.host.now c.args.left.now c.args.last.now v)) (Ok x) c.invoke.new.thread c.invoke.new.host c.invoke.new.left c.invoke.new.last (past v h.0)) c.in-Some.is (h.2 v b),
        λ e. c.in_ok-ended.ensures.early (ap (λ x. Ok x) (c.in-Some.is ∙ ap Some e)),
      ),
    ))

pub returns-clause-leads : goal.returns-clause-leads
returns-clause-leads g c =
    let P = program_of c.args.functions.now in
    recalled g.H.Host.meaning P g.P.Stop.may c.args.stop.now c.invoke.new.stop c.args.state c.in_ok-values.values c.most_frames.result c.args.args.now c.args.function c.args.host.now c.args.left.now c.args.last.now
    c.in_ok-values.ensures c.most_frames.ensures (λ o u. o ≡ Normal (state_of c.invoke.new.thread.state c.invoke.new.host c.invoke.new.left c.invoke.new.last u))
    (let h = c.in_ok-ended.ensures.leads in (
      h.0,
      h.1,
      λ v b.
          subst (λ x. RunLeads g.H.Host.stands (invoked g.H.Host.meaning P c.most_frames.result c.args.function (state_of (record c.args.state { values = c.in_ok-values.values }) c.args.host.now c.args.left.now c.args.last.now v)) (Ok x) c.invoke.new.thread c.invoke.new.host c.invoke.new.left c.invoke.new.last (past v h.0)) c.in-None.is (h.2 v b),
    ))

pub invoke-requires-clause-sound : goal.invoke-requires-clause-sound
invoke-requires-clause-sound g c =
    let P = program_of c.args.functions.now in
    let S = c.requires.sound in
    (S.0, S.1, subst NotStuck (sym (called_as g.H.Host.meaning P c.args.state c.in_ok-values.values c.most_frames.result c.args.args.now c.args.function c.args.host.now c.args.left.now c.args.last.now S.0 c.in_ok-values.ensures c.most_frames.ensures)) S.2)
