use Rattle.std.proofs.Common.{◌≡◌, [], ◌∷◌, length, refl, sym, subst, ◌∙◌}
use Rattle.ante_wtree.specs.Types.{masked}
use Rattle.ante_wmeaning.specs.declared.ends.RunEnd.TheVariants as end
use Rattle.ante_wmeaning.specs.PlainInstructions.{popped}
use Rattle.ante_wmeaning.specs.Environment.{after_call, undisturbed}
use Rattle.ante_wmeaning.specs.Configurations.{on_stack}
use Rattle.ante_wmeaning.specs.Execution.{call, arguments}
use Rattle.ante_wrun.specs.ThreadStates.{state_of, going, after, rest_of}
use Rattle.ante_wrun.specs.Control.{program_of, Leads, GivenAt}
use Rattle.ante_wmeaning.specs.Environment.{CallSupplied, Wanting}
use Rattle.ante_wmeaning.specs.RunEnds.{Ends, Lacking, NotStuck}
use Rattle.ante_wrun.specs.InstructionCycle.{RunLeads}
use Rattle.ante_wrun.proofs.Turning.{sound_call, answered, more_events, invoke_by, outset, stops_ends}
use Rattle.ante_wrun.proofs.Rules.{first_runs, inner, callable}
use Rattle.ante_wmeaning.proofs.Arguments.{masked_fit}
use Rattle.ante_wrun.proofs.run.invoke.Goals as goal

pub returns-in-Ok-Go-clause-leads : goal.returns-in-Ok-Go-clause-leads
returns-in-Ok-Go-clause-leads g c =
    let P = program_of c.args.functions.now in
    more_events g.P.Stop.may c.args.stop.now c.args.stop.now c.run_thread.new.stop (λ v. outset g.H.Host.meaning P g.P.Stop.may c.args.stop.now c.args.host.now c.args.thread.now c.requires.idle.0 c.requires.idle.1 c.args.function c.args.left.now c.args.last.now v)
    (λ u. going g.H.Host.meaning P c.call_function.new.thread (state_of c.call_function.new.thread.state c.args.host.now c.args.left.now c.args.last.now u))
    (λ o u. RunLeads g.H.Host.stands o c.run_thread.result c.run_thread.new.thread c.run_thread.new.host c.run_thread.new.left c.run_thread.new.last u)
    (invoke_by g.H.Host.meaning P g.P.Stop.may c.args.stop.now c.args.host.now c.args.thread.now c.requires.idle.0 c.requires.idle.1 c.args.function c.args.left.now c.args.last.now (λ o u. o ≡ going g.H.Host.meaning P c.call_function.new.thread (state_of c.call_function.new.thread.state c.args.host.now c.args.left.now c.args.last.now u)) [] refl
    (λ u b. subst (λ n. Leads g.H.Host.meaning P (after g.H.Host.meaning P c.args.thread.now (call g.H.Host.meaning P c.args.thread.now.free c.args.function (state_of c.args.thread.now.state c.args.host.now c.args.left.now c.args.last.now u))) n c.call_function.new.thread c.args.host.now c.args.left.now c.args.last.now u) c.in-Ok-Go.field-0-is (c.in-Ok-Go.ensures.leads c.args.host.now c.args.left.now c.args.last.now u)))
    c.run_thread.ensures.leads

pub returns-in-Ok-Trap-clause-leads : goal.returns-in-Ok-Trap-clause-leads
returns-in-Ok-Trap-clause-leads g c =
    let P = program_of c.args.functions.now in
    invoke_by g.H.Host.meaning P g.P.Stop.may c.args.stop.now c.args.host.now c.args.thread.now c.requires.idle.0 c.requires.idle.1 c.args.function c.args.left.now c.args.last.now (λ o u. Ends g.H.Host.stands (end.Trap c.in-Ok-Trap.kind) c.args.host.now c.args.left.now u o) [] refl
    (λ u b. stops_ends g.H.Host.stands (end.Trap c.in-Ok-Trap.kind) c.args.host.now c.args.left.now u _ (subst (λ n. Leads g.H.Host.meaning P (after g.H.Host.meaning P c.args.thread.now (call g.H.Host.meaning P c.args.thread.now.free c.args.function (state_of c.args.thread.now.state c.args.host.now c.args.left.now c.args.last.now u))) n c.call_function.new.thread c.args.host.now c.args.left.now c.args.last.now u) c.in-Ok-Trap.field-0-is (c.in-Ok-Trap.ensures.leads c.args.host.now c.args.left.now c.args.last.now u)))

pub returns-in-Ok-CallDepth-clause-leads : goal.returns-in-Ok-CallDepth-clause-leads
returns-in-Ok-CallDepth-clause-leads g c =
    let P = program_of c.args.functions.now in
    invoke_by g.H.Host.meaning P g.P.Stop.may c.args.stop.now c.args.host.now c.args.thread.now c.requires.idle.0 c.requires.idle.1 c.args.function c.args.left.now c.args.last.now (λ o u. Ends g.H.Host.stands end.CallDepth c.args.host.now c.args.left.now u o) [] refl
    (λ u b. stops_ends g.H.Host.stands end.CallDepth c.args.host.now c.args.left.now u _ (subst (λ n. Leads g.H.Host.meaning P (after g.H.Host.meaning P c.args.thread.now (call g.H.Host.meaning P c.args.thread.now.free c.args.function (state_of c.args.thread.now.state c.args.host.now c.args.left.now c.args.last.now u))) n c.call_function.new.thread c.args.host.now c.args.left.now c.args.last.now u) c.in-Ok-CallDepth.field-0-is (c.in-Ok-CallDepth.ensures.leads c.args.host.now c.args.left.now c.args.last.now u)))

pub returns-in-Ok-StepLimit-clause-leads : goal.returns-in-Ok-StepLimit-clause-leads
returns-in-Ok-StepLimit-clause-leads g c =
    let P = program_of c.args.functions.now in
    invoke_by g.H.Host.meaning P g.P.Stop.may c.args.stop.now c.args.host.now c.args.thread.now c.requires.idle.0 c.requires.idle.1 c.args.function c.args.left.now c.args.last.now (λ o u. Ends g.H.Host.stands end.StepLimit c.args.host.now c.args.left.now u o) [] refl
    (λ u b. let h = subst (λ n. Leads g.H.Host.meaning P (after g.H.Host.meaning P c.args.thread.now (call g.H.Host.meaning P c.args.thread.now.free c.args.function (state_of c.args.thread.now.state c.args.host.now c.args.left.now c.args.last.now u))) n c.call_function.new.thread c.args.host.now c.args.left.now c.args.last.now u) c.in-Ok-StepLimit.field-0-is (c.in-Ok-StepLimit.ensures.leads c.args.host.now c.args.left.now c.args.last.now u) in
    subst (λ k. Ends g.H.Host.stands end.StepLimit c.args.host.now k u (after g.H.Host.meaning P c.args.thread.now (call g.H.Host.meaning P c.args.thread.now.free c.args.function (state_of c.args.thread.now.state c.args.host.now c.args.left.now c.args.last.now u)))) (sym h.1) (stops_ends g.H.Host.stands end.StepLimit c.args.host.now 0 u _ h.0))

pub returns-in-Go-clause-leads : goal.returns-in-Go-clause-leads
returns-in-Go-clause-leads g c =
    let P = program_of c.args.functions.now in
    more_events g.P.Stop.may c.args.stop.now c.args.stop.now c.run_thread-in-Go.new.stop (λ v. outset g.H.Host.meaning P g.P.Stop.may c.args.stop.now c.args.host.now c.args.thread.now c.requires.idle.0 c.requires.idle.1 c.args.function c.args.left.now c.args.last.now v)
    (λ u. going g.H.Host.meaning P c.host_call.new.thread (state_of c.host_call.new.thread.state c.host_call.new.host c.host_call.new.left c.args.last.now u))
    (λ o u. RunLeads g.H.Host.stands o c.run_thread-in-Go.result c.run_thread-in-Go.new.thread c.run_thread-in-Go.new.host c.run_thread-in-Go.new.left c.run_thread-in-Go.new.last u)
    (invoke_by g.H.Host.meaning P g.P.Stop.may c.args.stop.now c.args.host.now c.args.thread.now c.requires.idle.0 c.requires.idle.1 c.args.function c.args.left.now c.args.last.now (λ o u. o ≡ going g.H.Host.meaning P c.host_call.new.thread (state_of c.host_call.new.thread.state c.host_call.new.host c.host_call.new.left c.args.last.now u)) (CallSupplied ∷ []) refl
    (λ u b. let h = subst (λ n. Leads g.H.Host.meaning P (after g.H.Host.meaning P c.args.thread.now (call g.H.Host.meaning P c.args.thread.now.free c.args.function (state_of c.args.thread.now.state c.args.host.now c.args.left.now c.args.last.now u))) n c.call_function.new.thread c.args.host.now c.args.left.now c.args.last.now u) c.in-Ok-HostCall.field-0-is (c.in-Ok-HostCall.ensures.leads c.args.host.now c.args.left.now c.args.last.now u) in h.0 ∙ c.in-Go.ensures.leads P c.args.last.now u b.0))
    c.run_thread-in-Go.ensures.leads

pub returns-in-Ended-clause-leads : goal.returns-in-Ended-clause-leads
returns-in-Ended-clause-leads g c =
    let P = program_of c.args.functions.now in
    invoke_by g.H.Host.meaning P g.P.Stop.may c.args.stop.now c.args.host.now c.args.thread.now c.requires.idle.0 c.requires.idle.1 c.args.function c.args.left.now c.args.last.now (λ o u. Ends g.H.Host.stands c.in-Ended.end c.host_call.new.host c.host_call.new.left u o) (CallSupplied ∷ []) refl
    (λ u b. let h = subst (λ n. Leads g.H.Host.meaning P (after g.H.Host.meaning P c.args.thread.now (call g.H.Host.meaning P c.args.thread.now.free c.args.function (state_of c.args.thread.now.state c.args.host.now c.args.left.now c.args.last.now u))) n c.call_function.new.thread c.args.host.now c.args.left.now c.args.last.now u) c.in-Ok-HostCall.field-0-is (c.in-Ok-HostCall.ensures.leads c.args.host.now c.args.left.now c.args.last.now u) in
    subst (Ends g.H.Host.stands c.in-Ended.end c.host_call.new.host c.host_call.new.left (after_call u)) (sym h.0) (c.in-Ended.ensures.leads P c.args.last.now u b.0))

pub returns-in-Lacks-clause-leads : goal.returns-in-Lacks-clause-leads
returns-in-Lacks-clause-leads g c =
    let P = program_of c.args.functions.now in
    invoke_by g.H.Host.meaning P g.P.Stop.may c.args.stop.now c.args.host.now c.args.thread.now c.requires.idle.0 c.requires.idle.1 c.args.function c.args.left.now c.args.last.now (λ o u. Wanting u → Lacking g.H.Host.stands c.host_call.new.host c.host_call.new.left u o) [] refl
    (λ u b want. let h = subst (λ n. Leads g.H.Host.meaning P (after g.H.Host.meaning P c.args.thread.now (call g.H.Host.meaning P c.args.thread.now.free c.args.function (state_of c.args.thread.now.state c.args.host.now c.args.left.now c.args.last.now u))) n c.call_function.new.thread c.args.host.now c.args.left.now c.args.last.now u) c.in-Ok-HostCall.field-0-is (c.in-Ok-HostCall.ensures.leads c.args.host.now c.args.left.now c.args.last.now u) in
    subst (Lacking g.H.Host.stands c.host_call.new.host c.host_call.new.left u) (sym h.0) (c.in-Lacks.ensures.leads P c.args.last.now u want.1))

pub host_call-requires-clause-room : goal.host_call-requires-clause-room
host_call-requires-clause-room g c =
    let P = program_of c.args.functions.now in
    let h = subst (λ n. Leads g.H.Host.meaning P (after g.H.Host.meaning P c.args.thread.now (call g.H.Host.meaning P c.args.thread.now.free c.args.function (state_of c.args.thread.now.state c.args.host.now c.args.left.now c.args.last.now undisturbed))) n c.call_function.new.thread c.args.host.now c.args.left.now c.args.last.now undisturbed) c.in-Ok-HostCall.field-0-is (c.in-Ok-HostCall.ensures.leads c.args.host.now c.args.left.now c.args.last.now undisturbed) in h.1

pub host_call-requires-clause-allowed : goal.host_call-requires-clause-allowed
host_call-requires-clause-allowed g c =
    let P = program_of c.args.functions.now in
    let h = subst (λ n. Leads g.H.Host.meaning P (after g.H.Host.meaning P c.args.thread.now (call g.H.Host.meaning P c.args.thread.now.free c.args.function (state_of c.args.thread.now.state c.args.host.now c.args.left.now c.args.last.now undisturbed))) n c.call_function.new.thread c.args.host.now c.args.left.now c.args.last.now undisturbed) c.in-Ok-HostCall.field-0-is (c.in-Ok-HostCall.ensures.leads c.args.host.now c.args.left.now c.args.last.now undisturbed) in
    c.requires.here (c.in-Ok-HostCall.kind.now, c.in-Ok-HostCall.number, subst (GivenAt (program_of c.args.functions.now) c.args.function) c.in-Ok-HostCall.field-0-is c.in-Ok-HostCall.ensures.given) c.in-Ok-HostCall.kind.now c.in-Ok-HostCall.number (masked c.in-Ok-HostCall.kind.now.params (arguments (length c.in-Ok-HostCall.kind.now.params) (popped c.call_function.new.thread.state.values.stack))) h.2
    (masked_fit c.in-Ok-HostCall.kind.now.params c.call_function.new.thread.state.values.stack h.1)

pub run_thread-requires-in-Go-clause-below : goal.run_thread-requires-in-Go-clause-below
run_thread-requires-in-Go-clause-below g c = λ less lt kind number args given fit. c.in-Go.ensures.after number args less lt (c.requires.here (c.in-Ok-HostCall.kind.now, c.in-Ok-HostCall.number, subst (GivenAt (program_of c.args.functions.now) c.args.function) c.in-Ok-HostCall.field-0-is c.in-Ok-HostCall.ensures.given) kind number args given fit)

pub call_function-requires-clause-takes : goal.call_function-requires-clause-takes
call_function-requires-clause-takes g c =
    let P = program_of c.args.functions.now in
    let S = sound_call g.H.Host.meaning P g.P.Stop.may c.args.stop.now c.args.host.now c.args.thread.now c.requires.idle.0 c.requires.idle.1 c.args.function c.args.left.now c.args.last.now c.requires.sound in
    let t = c.args.thread.now in
    callable g.H.Host.meaning P t.free c.args.function (state_of t.state c.args.host.now c.args.left.now c.args.last.now S.0)
    (first_runs _ (rest_of g.H.Host.meaning P t) (inner g.H.Host.meaning P t.free t.state.values.below t.frames _ S.2))

pub run_thread-requires-clause-sound : goal.run_thread-requires-clause-sound
run_thread-requires-clause-sound g c =
    let P = program_of c.args.functions.now in
    let S = sound_call g.H.Host.meaning P g.P.Stop.may c.args.stop.now c.args.host.now c.args.thread.now c.requires.idle.0 c.requires.idle.1 c.args.function c.args.left.now c.args.last.now c.requires.sound in
    (S.0, S.1, subst NotStuck (subst (λ n. Leads g.H.Host.meaning P (after g.H.Host.meaning P c.args.thread.now (call g.H.Host.meaning P c.args.thread.now.free c.args.function (state_of c.args.thread.now.state c.args.host.now c.args.left.now c.args.last.now S.0))) n c.call_function.new.thread c.args.host.now c.args.left.now c.args.last.now S.0) c.in-Ok-Go.field-0-is (c.in-Ok-Go.ensures.leads c.args.host.now c.args.left.now c.args.last.now S.0)) S.2)

pub run_thread-requires-in-Go-clause-sound : goal.run_thread-requires-in-Go-clause-sound
run_thread-requires-in-Go-clause-sound g c =
    let P = program_of c.args.functions.now in
    let S = sound_call g.H.Host.meaning P g.P.Stop.may c.args.stop.now c.args.host.now c.args.thread.now c.requires.idle.0 c.requires.idle.1 c.args.function c.args.left.now c.args.last.now c.requires.sound in
    let h = subst (λ n. Leads g.H.Host.meaning P (after g.H.Host.meaning P c.args.thread.now (call g.H.Host.meaning P c.args.thread.now.free c.args.function (state_of c.args.thread.now.state c.args.host.now c.args.left.now c.args.last.now S.0))) n c.call_function.new.thread c.args.host.now c.args.left.now c.args.last.now S.0) c.in-Ok-HostCall.field-0-is (c.in-Ok-HostCall.ensures.leads c.args.host.now c.args.left.now c.args.last.now S.0) in
    (after_call S.0, S.1, subst NotStuck (h.0 ∙ c.in-Go.ensures.leads P c.args.last.now S.0 (S.1.2 S.0.calls)) S.2)

pub host_call-requires-clause-replies : goal.host_call-requires-clause-replies
host_call-requires-clause-replies g c =
    let P = program_of c.args.functions.now in
    let S = sound_call g.H.Host.meaning P g.P.Stop.may c.args.stop.now c.args.host.now c.args.thread.now c.requires.idle.0 c.requires.idle.1 c.args.function c.args.left.now c.args.last.now c.requires.sound in
    let h = subst (λ n. Leads g.H.Host.meaning P (after g.H.Host.meaning P c.args.thread.now (call g.H.Host.meaning P c.args.thread.now.free c.args.function (state_of c.args.thread.now.state c.args.host.now c.args.left.now c.args.last.now S.0))) n c.call_function.new.thread c.args.host.now c.args.left.now c.args.last.now S.0) c.in-Ok-HostCall.field-0-is (c.in-Ok-HostCall.ensures.leads c.args.host.now c.args.left.now c.args.last.now S.0) in
    let t = c.call_function.new.thread in
    let s = on_stack (state_of t.state c.args.host.now c.args.left.now c.args.last.now S.0) (popped t.state.values.stack) in
    answered g.H.Host.meaning c.in-Ok-HostCall.kind.now c.in-Ok-HostCall.number s (S.1.2 S.0.calls)
    (first_runs _ (rest_of g.H.Host.meaning P t) (inner g.H.Host.meaning P t.free t.state.values.below t.frames _ (subst NotStuck h.0 S.2)))
