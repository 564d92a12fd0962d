use Rattle.std.proofs.Common.{◌≡◌, ◌<◌, [], ◌∷◌, length, refl, sym, subst, ◌∙◌, arith}
use Rattle.ante_wtree.specs.Types.{masked}
use Rattle.ante_wmeaning.specs.declared.ends.RunEnd.TheVariants as end
use Rattle.ante_wmeaning.specs.PlainInstructions.{popped}
use Rattle.ante_wmeaning.specs.Environment.{after_call, undisturbed}
use Rattle.ante_wmeaning.specs.Configurations.{on_stack}
use Rattle.ante_wmeaning.specs.Execution.{arguments}
use Rattle.ante_wrun.specs.ThreadStates.{state_of, whole, going, rest_of}
use Rattle.ante_wrun.specs.Control.{program_of, Leads}
use Rattle.ante_wmeaning.specs.Environment.{CallSupplied, Wanting}
use Rattle.ante_wmeaning.specs.RunEnds.{Ends, Lacking, NotStuck}
use Rattle.ante_wrun.proofs.Turning.{first_of, sound_turn, answered, turn_by, limit_by, cut_by, lack_by, stops_ends}
use Rattle.ante_wrun.proofs.Rules.{first_runs, inner}
use Rattle.ante_wmeaning.proofs.Arguments.{masked_fit}
use Rattle.ante_wrun.proofs.run.turn.Goals as goal

pub returns-in-StepLimit-clause-leads : goal.returns-in-StepLimit-clause-leads
returns-in-StepLimit-clause-leads g c =
    let P = program_of c.args.functions.now in
    limit_by g.H.Host.meaning g.H.Host.stands P g.P.Stop.may c.args.stop.now c.pay.new.stop c.args.host.now c.args.thread.now c.next_instr.new.thread c.in-Some.instr c.args.left.now c.args.last.now (λ v. c.in-Some.ensures.finds P c.args.host.now c.args.left.now c.args.last.now v) c.pay.new.left c.in-StepLimit.ensures.steps.0 c.in-StepLimit.ensures.steps.1 c.in-StepLimit.ensures.look

pub returns-in-Cut-clause-leads : goal.returns-in-Cut-clause-leads
returns-in-Cut-clause-leads g c =
    let P = program_of c.args.functions.now in
    cut_by g.H.Host.meaning g.H.Host.stands P g.P.Stop.may c.args.stop.now c.pay.new.stop c.args.host.now c.args.thread.now c.next_instr.new.thread c.in-Some.instr c.args.left.now c.args.last.now (λ v. c.in-Some.ensures.finds P c.args.host.now c.args.left.now c.args.last.now v) c.pay.new.left c.in-Cut.at c.in-Cut.ensures.steps.0 c.in-Cut.ensures.steps.1 c.in-Cut.ensures.look

pub returns-in-None-clause-leads : goal.returns-in-None-clause-leads
returns-in-None-clause-leads g c =
    let P = program_of c.args.functions.now in
    ([], refl, λ v b. c.in-None.ensures.finds P c.args.host.now c.args.left.now c.args.last.now v)

pub returns-in-Ok-Go-clause-leads : goal.returns-in-Ok-Go-clause-leads
returns-in-Ok-Go-clause-leads g c =
    let P = program_of c.args.functions.now in
    turn_by g.H.Host.meaning g.H.Host.stands P g.P.Stop.may c.args.stop.now c.pay.new.stop c.args.host.now c.args.thread.now c.next_instr.new.thread c.in-Some.instr c.args.left.now c.args.last.now (λ v. c.in-Some.ensures.finds P c.args.host.now c.args.left.now c.args.last.now v) c.pay.new.left c.pay.new.last c.in-Yes.ensures.steps.0 c.in-Yes.ensures.steps.1 c.in-Yes.ensures.look
    (λ o u. o ≡ going g.H.Host.meaning P c.act.new.thread (state_of c.act.new.thread.state c.args.host.now c.act.new.left c.pay.new.last u)) [] refl
    (λ u b. subst (λ n. Leads g.H.Host.meaning P (whole g.H.Host.meaning P c.next_instr.new.thread (first_of g.H.Host.meaning P c.next_instr.new.thread c.in-Some.instr (state_of c.next_instr.new.thread.state c.args.host.now c.pay.new.left c.pay.new.last u))) n c.act.new.thread c.args.host.now c.act.new.left c.pay.new.last u) c.in-Ok-Go.field-0-is (c.in-Ok-Go.ensures.leads c.args.host.now c.pay.new.last u))

pub returns-in-Ok-Trap-clause-leads : goal.returns-in-Ok-Trap-clause-leads
returns-in-Ok-Trap-clause-leads g c =
    let P = program_of c.args.functions.now in
    turn_by g.H.Host.meaning g.H.Host.stands P g.P.Stop.may c.args.stop.now c.pay.new.stop c.args.host.now c.args.thread.now c.next_instr.new.thread c.in-Some.instr c.args.left.now c.args.last.now (λ v. c.in-Some.ensures.finds P c.args.host.now c.args.left.now c.args.last.now v) c.pay.new.left c.pay.new.last c.in-Yes.ensures.steps.0 c.in-Yes.ensures.steps.1 c.in-Yes.ensures.look
    (λ o u. Ends g.H.Host.stands (end.Trap c.in-Ok-Trap.kind) c.args.host.now c.act.new.left u o) [] refl
    (λ u b. stops_ends g.H.Host.stands (end.Trap c.in-Ok-Trap.kind) c.args.host.now c.act.new.left u _ (subst (λ n. Leads g.H.Host.meaning P (whole g.H.Host.meaning P c.next_instr.new.thread (first_of g.H.Host.meaning P c.next_instr.new.thread c.in-Some.instr (state_of c.next_instr.new.thread.state c.args.host.now c.pay.new.left c.pay.new.last u))) n c.act.new.thread c.args.host.now c.act.new.left c.pay.new.last u) c.in-Ok-Trap.field-0-is (c.in-Ok-Trap.ensures.leads c.args.host.now c.pay.new.last u)))

pub returns-in-Ok-StepLimit-clause-leads : goal.returns-in-Ok-StepLimit-clause-leads
returns-in-Ok-StepLimit-clause-leads g c =
    let P = program_of c.args.functions.now in
    turn_by g.H.Host.meaning g.H.Host.stands P g.P.Stop.may c.args.stop.now c.pay.new.stop c.args.host.now c.args.thread.now c.next_instr.new.thread c.in-Some.instr c.args.left.now c.args.last.now (λ v. c.in-Some.ensures.finds P c.args.host.now c.args.left.now c.args.last.now v) c.pay.new.left c.pay.new.last c.in-Yes.ensures.steps.0 c.in-Yes.ensures.steps.1 c.in-Yes.ensures.look
    (λ o u. Ends g.H.Host.stands end.StepLimit c.args.host.now c.act.new.left u o) [] refl
    (λ u b. let h = subst (λ n. Leads g.H.Host.meaning P (whole g.H.Host.meaning P c.next_instr.new.thread (first_of g.H.Host.meaning P c.next_instr.new.thread c.in-Some.instr (state_of c.next_instr.new.thread.state c.args.host.now c.pay.new.left c.pay.new.last u))) n c.act.new.thread c.args.host.now c.act.new.left c.pay.new.last u) c.in-Ok-StepLimit.field-0-is (c.in-Ok-StepLimit.ensures.leads c.args.host.now c.pay.new.last u) in
    subst (λ k. Ends g.H.Host.stands end.StepLimit c.args.host.now k u (whole g.H.Host.meaning P c.next_instr.new.thread (first_of g.H.Host.meaning P c.next_instr.new.thread c.in-Some.instr (state_of c.next_instr.new.thread.state c.args.host.now c.pay.new.left c.pay.new.last u)))) (sym h.1) (stops_ends g.H.Host.stands end.StepLimit c.args.host.now 0 u _ h.0))

pub returns-in-Ok-CallDepth-clause-leads : goal.returns-in-Ok-CallDepth-clause-leads
returns-in-Ok-CallDepth-clause-leads g c =
    let P = program_of c.args.functions.now in
    turn_by g.H.Host.meaning g.H.Host.stands P g.P.Stop.may c.args.stop.now c.pay.new.stop c.args.host.now c.args.thread.now c.next_instr.new.thread c.in-Some.instr c.args.left.now c.args.last.now (λ v. c.in-Some.ensures.finds P c.args.host.now c.args.left.now c.args.last.now v) c.pay.new.left c.pay.new.last c.in-Yes.ensures.steps.0 c.in-Yes.ensures.steps.1 c.in-Yes.ensures.look
    (λ o u. Ends g.H.Host.stands end.CallDepth c.args.host.now c.act.new.left u o) [] refl
    (λ u b. stops_ends g.H.Host.stands end.CallDepth c.args.host.now c.act.new.left u _ (subst (λ n. Leads g.H.Host.meaning P (whole g.H.Host.meaning P c.next_instr.new.thread (first_of g.H.Host.meaning P c.next_instr.new.thread c.in-Some.instr (state_of c.next_instr.new.thread.state c.args.host.now c.pay.new.left c.pay.new.last u))) n c.act.new.thread c.args.host.now c.act.new.left c.pay.new.last u) c.in-Ok-CallDepth.field-0-is (c.in-Ok-CallDepth.ensures.leads c.args.host.now c.pay.new.last u)))

pub returns-in-Go-clause-leads : goal.returns-in-Go-clause-leads
returns-in-Go-clause-leads g c =
    let P = program_of c.args.functions.now in
    turn_by g.H.Host.meaning g.H.Host.stands P g.P.Stop.may c.args.stop.now c.pay.new.stop c.args.host.now c.args.thread.now c.next_instr.new.thread c.in-Some.instr c.args.left.now c.args.last.now (λ v. c.in-Some.ensures.finds P c.args.host.now c.args.left.now c.args.last.now v) c.pay.new.left c.pay.new.last c.in-Yes.ensures.steps.0 c.in-Yes.ensures.steps.1 c.in-Yes.ensures.look
    (λ o u. o ≡ going g.H.Host.meaning P c.host_call.new.thread (state_of c.host_call.new.thread.state c.host_call.new.host c.host_call.new.left c.pay.new.last u)) (CallSupplied ∷ []) refl
    (λ u b. let h = subst (λ n. Leads g.H.Host.meaning P (whole g.H.Host.meaning P c.next_instr.new.thread (first_of g.H.Host.meaning P c.next_instr.new.thread c.in-Some.instr (state_of c.next_instr.new.thread.state c.args.host.now c.pay.new.left c.pay.new.last u))) n c.act.new.thread c.args.host.now c.act.new.left c.pay.new.last u) c.in-Ok-HostCall.field-0-is (c.in-Ok-HostCall.ensures.leads c.args.host.now c.pay.new.last u) in h.0 ∙ c.in-Go.ensures.leads P c.pay.new.last u b.0)

pub returns-in-Ended-clause-leads : goal.returns-in-Ended-clause-leads
returns-in-Ended-clause-leads g c =
    let P = program_of c.args.functions.now in
    turn_by g.H.Host.meaning g.H.Host.stands P g.P.Stop.may c.args.stop.now c.pay.new.stop c.args.host.now c.args.thread.now c.next_instr.new.thread c.in-Some.instr c.args.left.now c.args.last.now (λ v. c.in-Some.ensures.finds P c.args.host.now c.args.left.now c.args.last.now v) c.pay.new.left c.pay.new.last c.in-Yes.ensures.steps.0 c.in-Yes.ensures.steps.1 c.in-Yes.ensures.look
    (λ o u. Ends g.H.Host.stands c.in-Ended.end c.host_call.new.host c.host_call.new.left u o) (CallSupplied ∷ []) refl
    (λ u b. let h = subst (λ n. Leads g.H.Host.meaning P (whole g.H.Host.meaning P c.next_instr.new.thread (first_of g.H.Host.meaning P c.next_instr.new.thread c.in-Some.instr (state_of c.next_instr.new.thread.state c.args.host.now c.pay.new.left c.pay.new.last u))) n c.act.new.thread c.args.host.now c.act.new.left c.pay.new.last u) c.in-Ok-HostCall.field-0-is (c.in-Ok-HostCall.ensures.leads c.args.host.now c.pay.new.last u) in
    subst (Ends g.H.Host.stands c.in-Ended.end c.host_call.new.host c.host_call.new.left (after_call u)) (sym h.0) (c.in-Ended.ensures.leads P c.pay.new.last u b.0))

pub returns-in-Lacks-clause-leads : goal.returns-in-Lacks-clause-leads
returns-in-Lacks-clause-leads g c =
    let P = program_of c.args.functions.now in
    turn_by g.H.Host.meaning g.H.Host.stands P g.P.Stop.may c.args.stop.now c.pay.new.stop c.args.host.now c.args.thread.now c.next_instr.new.thread c.in-Some.instr c.args.left.now c.args.last.now (λ v. c.in-Some.ensures.finds P c.args.host.now c.args.left.now c.args.last.now v) c.pay.new.left c.pay.new.last c.in-Yes.ensures.steps.0 c.in-Yes.ensures.steps.1 c.in-Yes.ensures.look
    (λ o u. Wanting u → Lacking g.H.Host.stands c.host_call.new.host c.host_call.new.left u o) [] refl
    (λ u b want. let h = subst (λ n. Leads g.H.Host.meaning P (whole g.H.Host.meaning P c.next_instr.new.thread (first_of g.H.Host.meaning P c.next_instr.new.thread c.in-Some.instr (state_of c.next_instr.new.thread.state c.args.host.now c.pay.new.left c.pay.new.last u))) n c.act.new.thread c.args.host.now c.act.new.left c.pay.new.last u) c.in-Ok-HostCall.field-0-is (c.in-Ok-HostCall.ensures.leads c.args.host.now c.pay.new.last u) in
    subst (Lacking g.H.Host.stands c.host_call.new.host c.host_call.new.left u) (sym h.0) (c.in-Lacks.ensures.leads P c.pay.new.last u want.1))

pub returns-in-Err-clause-leads : goal.returns-in-Err-clause-leads
returns-in-Err-clause-leads g c =
    let P = program_of c.args.functions.now in
    lack_by g.H.Host.meaning g.H.Host.stands P g.P.Stop.may c.args.stop.now c.pay.new.stop c.args.host.now c.args.thread.now c.next_instr.new.thread c.in-Some.instr c.args.left.now c.args.last.now (λ v. c.in-Some.ensures.finds P c.args.host.now c.args.left.now c.args.last.now v) c.pay.new.left c.pay.new.last c.in-Yes.ensures.steps.0 c.in-Yes.ensures.steps.1 c.in-Yes.ensures.look

pub host_call-requires-clause-room : goal.host_call-requires-clause-room
host_call-requires-clause-room g c =
    let P = program_of c.args.functions.now in
    let h = subst (λ n. Leads g.H.Host.meaning P (whole g.H.Host.meaning P c.next_instr.new.thread (first_of g.H.Host.meaning P c.next_instr.new.thread c.in-Some.instr (state_of c.next_instr.new.thread.state c.args.host.now c.pay.new.left c.pay.new.last undisturbed))) n c.act.new.thread c.args.host.now c.act.new.left c.pay.new.last undisturbed) c.in-Ok-HostCall.field-0-is (c.in-Ok-HostCall.ensures.leads c.args.host.now c.pay.new.last undisturbed) in h.1

pub host_call-requires-clause-allowed : goal.host_call-requires-clause-allowed
host_call-requires-clause-allowed g c =
    let P = program_of c.args.functions.now in
    let h = subst (λ n. Leads g.H.Host.meaning P (whole g.H.Host.meaning P c.next_instr.new.thread (first_of g.H.Host.meaning P c.next_instr.new.thread c.in-Some.instr (state_of c.next_instr.new.thread.state c.args.host.now c.pay.new.left c.pay.new.last undisturbed))) n c.act.new.thread c.args.host.now c.act.new.left c.pay.new.last undisturbed) c.in-Ok-HostCall.field-0-is (c.in-Ok-HostCall.ensures.leads c.args.host.now c.pay.new.last undisturbed) in
    let less : c.act.new.left < c.args.left.now = omega (arith, c.in-Ok-HostCall.ensures.falls, c.in-Yes.ensures.steps.0) in
    c.requires.below c.act.new.left less c.in-Ok-HostCall.kind.now c.in-Ok-HostCall.number (masked c.in-Ok-HostCall.kind.now.params (arguments (length c.in-Ok-HostCall.kind.now.params) (popped c.act.new.thread.state.values.stack))) h.2
    (masked_fit c.in-Ok-HostCall.kind.now.params c.act.new.thread.state.values.stack h.1)

-- the instruction that is next, in a run that isn't stuck
pub act-requires-clause-sound : goal.act-requires-clause-sound
act-requires-clause-sound g c =
    let P = program_of c.args.functions.now in
    let S = sound_turn g.H.Host.meaning g.H.Host.stands P g.P.Stop.may c.args.stop.now c.pay.new.stop c.args.host.now c.args.thread.now c.next_instr.new.thread c.in-Some.instr c.args.left.now c.args.last.now (λ v. c.in-Some.ensures.finds P c.args.host.now c.args.left.now c.args.last.now v) c.pay.new.left c.pay.new.last c.in-Yes.ensures.steps.0 c.in-Yes.ensures.steps.1 c.requires.sound in
    (c.args.host.now, c.pay.new.last, S.0, S.2)

pub next_instr-requires-clause-sound : goal.next_instr-requires-clause-sound
next_instr-requires-clause-sound g c = (program_of c.args.functions.now, c.args.host.now, c.args.left.now, c.args.last.now, c.requires.sound.0, c.requires.sound.2)

pub returns-in-Ok-Go-clause-sound : goal.returns-in-Ok-Go-clause-sound
returns-in-Ok-Go-clause-sound g c = λ e.
    let P = program_of c.args.functions.now in
    let S = sound_turn g.H.Host.meaning g.H.Host.stands P g.P.Stop.may c.args.stop.now c.pay.new.stop c.args.host.now c.args.thread.now c.next_instr.new.thread c.in-Some.instr c.args.left.now c.args.last.now (λ v. c.in-Some.ensures.finds P c.args.host.now c.args.left.now c.args.last.now v) c.pay.new.left c.pay.new.last c.in-Yes.ensures.steps.0 c.in-Yes.ensures.steps.1 c.requires.sound in
    (S.0, S.1, subst NotStuck (subst (λ n. Leads g.H.Host.meaning P (whole g.H.Host.meaning P c.next_instr.new.thread (first_of g.H.Host.meaning P c.next_instr.new.thread c.in-Some.instr (state_of c.next_instr.new.thread.state c.args.host.now c.pay.new.left c.pay.new.last S.0))) n c.act.new.thread c.args.host.now c.act.new.left c.pay.new.last S.0) c.in-Ok-Go.field-0-is (c.in-Ok-Go.ensures.leads c.args.host.now c.pay.new.last S.0)) S.2)

pub returns-in-Go-clause-sound : goal.returns-in-Go-clause-sound
returns-in-Go-clause-sound g c = λ e.
    let P = program_of c.args.functions.now in
    let S = sound_turn g.H.Host.meaning g.H.Host.stands P g.P.Stop.may c.args.stop.now c.pay.new.stop c.args.host.now c.args.thread.now c.next_instr.new.thread c.in-Some.instr c.args.left.now c.args.last.now (λ v. c.in-Some.ensures.finds P c.args.host.now c.args.left.now c.args.last.now v) c.pay.new.left c.pay.new.last c.in-Yes.ensures.steps.0 c.in-Yes.ensures.steps.1 c.requires.sound in
    let h = subst (λ n. Leads g.H.Host.meaning P (whole g.H.Host.meaning P c.next_instr.new.thread (first_of g.H.Host.meaning P c.next_instr.new.thread c.in-Some.instr (state_of c.next_instr.new.thread.state c.args.host.now c.pay.new.left c.pay.new.last S.0))) n c.act.new.thread c.args.host.now c.act.new.left c.pay.new.last S.0) c.in-Ok-HostCall.field-0-is (c.in-Ok-HostCall.ensures.leads c.args.host.now c.pay.new.last S.0) in
    (after_call S.0, S.1, subst NotStuck (h.0 ∙ c.in-Go.ensures.leads P c.pay.new.last S.0 (S.1.2 S.0.calls)) S.2)

pub host_call-requires-clause-replies : goal.host_call-requires-clause-replies
host_call-requires-clause-replies g c =
    let P = program_of c.args.functions.now in
    let S = sound_turn g.H.Host.meaning g.H.Host.stands P g.P.Stop.may c.args.stop.now c.pay.new.stop c.args.host.now c.args.thread.now c.next_instr.new.thread c.in-Some.instr c.args.left.now c.args.last.now (λ v. c.in-Some.ensures.finds P c.args.host.now c.args.left.now c.args.last.now v) c.pay.new.left c.pay.new.last c.in-Yes.ensures.steps.0 c.in-Yes.ensures.steps.1 c.requires.sound in
    let h = subst (λ n. Leads g.H.Host.meaning P (whole g.H.Host.meaning P c.next_instr.new.thread (first_of g.H.Host.meaning P c.next_instr.new.thread c.in-Some.instr (state_of c.next_instr.new.thread.state c.args.host.now c.pay.new.left c.pay.new.last S.0))) n c.act.new.thread c.args.host.now c.act.new.left c.pay.new.last S.0) c.in-Ok-HostCall.field-0-is (c.in-Ok-HostCall.ensures.leads c.args.host.now c.pay.new.last S.0) in
    let t = c.act.new.thread in
    let s = on_stack (state_of t.state c.args.host.now c.act.new.left c.pay.new.last S.0) (popped t.state.values.stack) in
    answered g.H.Host.meaning c.in-Ok-HostCall.kind.now c.in-Ok-HostCall.number s (S.1.2 S.0.calls)
    (first_runs _ (rest_of g.H.Host.meaning P t) (inner g.H.Host.meaning P t.free t.state.values.below t.frames _ (subst NotStuck h.0 S.2)))
