use Rattle.std.proofs.Common.{◌≡◌, Ok, ap, subst, arith}
use Rattle.ante_wmeaning.specs.declared.ends.RunEnd.TheVariants as end
use Rattle.ante_wmeaning.specs.Environment.{Environment}
use Rattle.ante_wmeaning.specs.Configurations.{Normal}
use Rattle.ante_wrun.specs.ThreadStates.{state_of, going}
use Rattle.ante_wrun.specs.Control.{program_of}
use Rattle.ante_wmeaning.specs.Environment.{Begins, past, ByEvents, Wanting}
use Rattle.ante_wmeaning.specs.RunEnds.{Ends, Lacking}
use Rattle.ante_wrun.specs.InstructionCycle.{TurnLeads}
use Rattle.ante_wrun.proofs.Turning.{more_events, stops_ends}
use Rattle.ante_wrun.proofs.Stretching.{sound_after, then_quiet}
use Rattle.ante_wrun.proofs.run.run_thread.Goals as goal

pub turn-requires-clause-sound : goal.turn-requires-clause-sound
turn-requires-clause-sound g c =
    let P = program_of c.args.functions.now in
    sound_after
    (λ u. going g.H.Host.meaning P c.turns.thread (state_of c.turns.thread.state c.turns.host c.turns.left c.turns.last u))
    (λ u. going g.H.Host.meaning P c.run_stretch.new.thread (state_of c.run_stretch.new.thread.state c.turns.host c.run_stretch.new.left c.run_stretch.new.last u))
    c.turns.invariant.2 (c.in_default.ensures.leads P c.turns.host)

pub returns-in-Some-clause-leads : goal.returns-in-Some-clause-leads
returns-in-Some-clause-leads g c =
    let P = program_of c.args.functions.now in
    then_quiet g.P.Stop.may c.args.stop.now c.turns.stop
    (λ v. going g.H.Host.meaning P c.args.thread.now (state_of c.args.thread.now.state c.args.host.now c.args.left.now c.args.last.now v))
    (λ u. going g.H.Host.meaning P c.turns.thread (state_of c.turns.thread.state c.turns.host c.turns.left c.turns.last u))
    (λ o u. Ends g.H.Host.stands (end.Trap c.in-Some.kind) c.turns.host c.run_stretch.new.left u o)
    c.turns.invariant.0
    (let h = c.in-Some.ensures.leads P c.turns.host in (h.0, λ u b. stops_ends g.H.Host.stands (end.Trap c.in-Some.kind) c.turns.host c.run_stretch.new.left _ _ (h.1 u b)))

pub turns-preserved : goal.turns-preserved
turns-preserved g c =
    let P = program_of c.args.functions.now in (
      more_events g.P.Stop.may c.args.stop.now c.turns.stop c.turn.new.stop
          (λ v. going g.H.Host.meaning P c.args.thread.now (state_of c.args.thread.now.state c.args.host.now c.args.left.now c.args.last.now v))
          (λ u. going g.H.Host.meaning P c.run_stretch.new.thread (state_of c.run_stretch.new.thread.state c.turns.host c.run_stretch.new.left c.run_stretch.new.last u))
          (λ o u. o ≡ going g.H.Host.meaning P c.turn.new.thread (state_of c.turn.new.thread.state c.turn.new.host c.turn.new.left c.turn.new.last u))
          (then_quiet g.P.Stop.may c.args.stop.now c.turns.stop
          (λ v. going g.H.Host.meaning P c.args.thread.now (state_of c.args.thread.now.state c.args.host.now c.args.left.now c.args.last.now v))
          (λ u. going g.H.Host.meaning P c.turns.thread (state_of c.turns.thread.state c.turns.host c.turns.left c.turns.last u))
          (λ o u. o ≡ going g.H.Host.meaning P c.run_stretch.new.thread (state_of c.run_stretch.new.thread.state c.turns.host c.run_stretch.new.left c.run_stretch.new.last u))
          c.turns.invariant.0 (c.in_default.ensures.leads P c.turns.host))
          (subst (λ p. ByEvents g.P.Stop.may c.turns.stop c.turn.new.stop (λ events. (u : Environment) → Begins u events →
          TurnLeads g.H.Host.meaning g.H.Host.stands P (going g.H.Host.meaning P c.run_stretch.new.thread (state_of c.run_stretch.new.thread.state c.turns.host c.run_stretch.new.left c.run_stretch.new.last u)) (Ok p) c.turn.new.thread c.turn.new.host c.turn.new.left c.turn.new.last (past u events))) c.in-Ok-Go.field-0-is c.in-Ok-Go.ensures.leads),
      c.in-Ok-Go.ensures.allowed (ap Ok c.in-Ok-Go.field-0-is),
      c.in-Ok-Go.ensures.sound (ap Ok c.in-Ok-Go.field-0-is),
      omega (arith, c.in-Ok-Go.ensures.sinks, c.run_stretch.ensures.sinks, c.turns.invariant.3),
      c.in-Ok-Go.ensures.nested (ap Ok c.in-Ok-Go.field-0-is),
    )

pub returns-in-Ok-Over-clause-leads : goal.returns-in-Ok-Over-clause-leads
returns-in-Ok-Over-clause-leads g c =
    let P = program_of c.args.functions.now in
    more_events g.P.Stop.may c.args.stop.now c.turns.stop c.turn.new.stop
    (λ v. going g.H.Host.meaning P c.args.thread.now (state_of c.args.thread.now.state c.args.host.now c.args.left.now c.args.last.now v))
    (λ u. going g.H.Host.meaning P c.run_stretch.new.thread (state_of c.run_stretch.new.thread.state c.turns.host c.run_stretch.new.left c.run_stretch.new.last u))
    (λ o u. o ≡ Normal (state_of c.turn.new.thread.state c.turn.new.host c.turn.new.left c.turn.new.last u))
    (then_quiet g.P.Stop.may c.args.stop.now c.turns.stop
    (λ v. going g.H.Host.meaning P c.args.thread.now (state_of c.args.thread.now.state c.args.host.now c.args.left.now c.args.last.now v))
    (λ u. going g.H.Host.meaning P c.turns.thread (state_of c.turns.thread.state c.turns.host c.turns.left c.turns.last u))
    (λ o u. o ≡ going g.H.Host.meaning P c.run_stretch.new.thread (state_of c.run_stretch.new.thread.state c.turns.host c.run_stretch.new.left c.run_stretch.new.last u))
    c.turns.invariant.0 (c.in_default.ensures.leads P c.turns.host))
    (subst (λ p. ByEvents g.P.Stop.may c.turns.stop c.turn.new.stop (λ events. (u : Environment) → Begins u events →
    TurnLeads g.H.Host.meaning g.H.Host.stands P (going g.H.Host.meaning P c.run_stretch.new.thread (state_of c.run_stretch.new.thread.state c.turns.host c.run_stretch.new.left c.run_stretch.new.last u)) (Ok p) c.turn.new.thread c.turn.new.host c.turn.new.left c.turn.new.last (past u events))) c.in-Ok-Over.field-0-is c.in-Ok-Over.ensures.leads)

pub returns-in-Ok-Ended-clause-leads : goal.returns-in-Ok-Ended-clause-leads
returns-in-Ok-Ended-clause-leads g c =
    let P = program_of c.args.functions.now in
    more_events g.P.Stop.may c.args.stop.now c.turns.stop c.turn.new.stop
    (λ v. going g.H.Host.meaning P c.args.thread.now (state_of c.args.thread.now.state c.args.host.now c.args.left.now c.args.last.now v))
    (λ u. going g.H.Host.meaning P c.run_stretch.new.thread (state_of c.run_stretch.new.thread.state c.turns.host c.run_stretch.new.left c.run_stretch.new.last u))
    (λ o u. Ends g.H.Host.stands c.in-Ok-Ended.end c.turn.new.host c.turn.new.left u o)
    (then_quiet g.P.Stop.may c.args.stop.now c.turns.stop
    (λ v. going g.H.Host.meaning P c.args.thread.now (state_of c.args.thread.now.state c.args.host.now c.args.left.now c.args.last.now v))
    (λ u. going g.H.Host.meaning P c.turns.thread (state_of c.turns.thread.state c.turns.host c.turns.left c.turns.last u))
    (λ o u. o ≡ going g.H.Host.meaning P c.run_stretch.new.thread (state_of c.run_stretch.new.thread.state c.turns.host c.run_stretch.new.left c.run_stretch.new.last u))
    c.turns.invariant.0 (c.in_default.ensures.leads P c.turns.host))
    (subst (λ p. ByEvents g.P.Stop.may c.turns.stop c.turn.new.stop (λ events. (u : Environment) → Begins u events →
    TurnLeads g.H.Host.meaning g.H.Host.stands P (going g.H.Host.meaning P c.run_stretch.new.thread (state_of c.run_stretch.new.thread.state c.turns.host c.run_stretch.new.left c.run_stretch.new.last u)) (Ok p) c.turn.new.thread c.turn.new.host c.turn.new.left c.turn.new.last (past u events))) c.in-Ok-Ended.field-0-is c.in-Ok-Ended.ensures.leads)

pub returns-in-Err-clause-leads : goal.returns-in-Err-clause-leads
returns-in-Err-clause-leads g c =
    let P = program_of c.args.functions.now in
    more_events g.P.Stop.may c.args.stop.now c.turns.stop c.turn.new.stop
    (λ v. going g.H.Host.meaning P c.args.thread.now (state_of c.args.thread.now.state c.args.host.now c.args.left.now c.args.last.now v))
    (λ u. going g.H.Host.meaning P c.run_stretch.new.thread (state_of c.run_stretch.new.thread.state c.turns.host c.run_stretch.new.left c.run_stretch.new.last u))
    (λ o u. Wanting u → Lacking g.H.Host.stands c.turn.new.host c.turn.new.left u o)
    (then_quiet g.P.Stop.may c.args.stop.now c.turns.stop
    (λ v. going g.H.Host.meaning P c.args.thread.now (state_of c.args.thread.now.state c.args.host.now c.args.left.now c.args.last.now v))
    (λ u. going g.H.Host.meaning P c.turns.thread (state_of c.turns.thread.state c.turns.host c.turns.left c.turns.last u))
    (λ o u. o ≡ going g.H.Host.meaning P c.run_stretch.new.thread (state_of c.run_stretch.new.thread.state c.turns.host c.run_stretch.new.left c.run_stretch.new.last u))
    c.turns.invariant.0 (c.in_default.ensures.leads P c.turns.host))
    c.in-Err.ensures.leads
