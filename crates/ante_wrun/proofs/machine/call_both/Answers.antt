use Rattle.std.proofs.Common.{◌≡◌, ℕ, ◌≤◌, List, Ok, refl, sym, ap, subst, arith}
use Rattle.ante_wtree.specs.Trees.{tree_of}
use Rattle.ante_wmeaning.specs.Configurations.{Program, Normal}
use Rattle.ante_wmeaning.specs.Execution.{and_then}
use Rattle.ante_wrun.specs.ThreadStates.{state_of}
use Rattle.ante_wrun.specs.Control.{program_of}
use Rattle.ante_wmeaning.specs.Environment.{past}
use Rattle.ante_wmeaning.specs.RunEnds.{NotStuck}
use Rattle.ante_wmeaning.specs.HostConditions.{MayCall, MayBelow}
use Rattle.ante_wmeaning.specs.Instantiation.{apply_in}
use Rattle.ante_wmeaning.specs.Environment.{undisturbed}
use Rattle.ante_wmeaning.specs.Invocation.{start_runs, apply_runs, both_run}
use Rattle.ante_wmeaning.specs.RunEnds.{RunAnswers}
use Rattle.ante_wrun.specs.InstanceAndCalls.{OnReturn, CallLeads}
use Rattle.ante_wrun.proofs.Turning.{more_events}
use Rattle.ante_wmeaning.proofs.Starts.{some_start}
use Rattle.ante_wmeaning.proofs.Safe.{start_safe, apply_safe}
use Rattle.ante_wrun.proofs.machine.call_both.Goals as goal

below_from : {W : Type 0} (allowed : W → ℕ → List ℕ → ℕ → Type 0) (P : Program) →
    ((w : W) (number : ℕ) (args : List ℕ) (left less : ℕ) → less ≤ left → allowed w number args left → allowed w number args less) → (w : W) (left : ℕ) → MayCall allowed P w left → MayBelow allowed P w left
below_from allowed P lower w left h = λ less lt kind number args given fit. let le : less ≤ left = omega (arith, lt) in lower w number args left less le (h kind number args given fit)

pub returns-in-Returned-clause-ends : goal.returns-in-Returned-clause-ends
returns-in-Returned-clause-ends g c =
    let P = program_of c.args.functions.now in
    let m = tree_of c.args.module.now in
    let h = c.in_ok-state.ensures.leads in
    more_events g.P.Stop.may c.args.stop.now c.call_start.new.stop c.call_apply.new.stop
    (λ v. both_run g.H.Host.meaning P m c.args.args.now (state_of c.args.state c.args.host.now c.args.left.now c.args.left.now v))
    (λ u. apply_runs g.H.Host.meaning P (apply_in m) c.args.args.now (state_of c.in-Returned.state c.call_start.new.host c.call_start.new.left c.call_start.new.last u))
    (λ o u. RunAnswers g.H.Host.stands o c.call_apply.result c.call_apply.new.host c.call_apply.new.left u) (
      h.0,
      h.1,
      λ v b. ap (λ o. and_then o (apply_runs g.H.Host.meaning P (apply_in m) c.args.args.now))
          (subst (λ x. CallLeads g.H.Host.stands (start_runs g.H.Host.meaning P c.args.module.now.start (state_of c.args.state c.args.host.now c.args.left.now c.args.left.now v)) (Ok x) c.call_start.new.host c.call_start.new.left c.call_start.new.last (past v h.0)) c.in-Returned.is (h.2 v b)),
    )
    c.call_apply.ensures.ends

pub call_start-requires-clause-sound : goal.call_start-requires-clause-sound
call_start-requires-clause-sound g c =
    let P = program_of c.args.functions.now in
    let m = tree_of c.args.module.now in
    let s = state_of c.args.state c.args.host.now c.args.left.now c.args.left.now undisturbed in (
      undisturbed,
      (λ n. refl, λ n. refl, λ n. refl),
      subst (λ p. NotStuck (start_runs g.H.Host.meaning p m.start s)) (sym c.requires.program)
          (start_safe g.H.Host.meaning g.H.Host.allowed m c.requires.valid c.requires.answers g.met.H.Host.keeps g.met.H.Host.falls s c.requires.globals
          (subst (λ p. MayBelow g.H.Host.allowed p c.args.host.now c.args.left.now) c.requires.program (below_from g.H.Host.allowed P g.met.H.Host.lower c.args.host.now c.args.left.now c.requires.allowed))
          (subst (λ p. MayCall g.H.Host.allowed p c.args.host.now c.args.left.now) c.requires.program c.requires.allowed)).0,
    )

pub call_apply-requires-clause-sound : goal.call_apply-requires-clause-sound
call_apply-requires-clause-sound g c =
    let P = program_of c.args.functions.now in
    let m = tree_of c.args.module.now in
    let h = c.in_ok-state.ensures.leads in
    let v = some_start h.0 in
    let s = state_of c.args.state c.args.host.now c.args.left.now c.args.left.now v.0 in
    let t = state_of c.in-Returned.state c.call_start.new.host c.call_start.new.left c.call_start.new.last (past v.0 h.0) in
    let u = state_of c.in-Returned.state c.call_start.new.host c.call_start.new.left c.call_start.new.last undisturbed in
    let may = subst (λ p. MayBelow g.H.Host.allowed p c.args.host.now c.args.left.now) c.requires.program (below_from g.H.Host.allowed P g.met.H.Host.lower c.args.host.now c.args.left.now c.requires.allowed) in
    let safe = start_safe g.H.Host.meaning g.H.Host.allowed m c.requires.valid c.requires.answers g.met.H.Host.keeps g.met.H.Host.falls s c.requires.globals may
    (subst (λ p. MayCall g.H.Host.allowed p c.args.host.now c.args.left.now) c.requires.program c.requires.allowed) in
    let came = subst (λ x. CallLeads g.H.Host.stands (start_runs g.H.Host.meaning P m.start s) (Ok x) c.call_start.new.host c.call_start.new.left c.call_start.new.last (past v.0 h.0)) c.in-Returned.is (h.2 v.0 v.1) in
    let globals = safe.1 t (subst (λ p. start_runs g.H.Host.meaning p m.start s ≡ Normal t) c.requires.program came) in
    let later = subst (λ p. MayBelow g.H.Host.allowed p c.call_start.new.host c.call_start.new.left) c.requires.program
    (subst (λ x. OnReturn x (MayBelow g.H.Host.allowed P c.call_start.new.host c.call_start.new.left)) c.in-Returned.is c.in_ok-state.ensures.allowed) in (
      undisturbed,
      (λ n. refl, λ n. refl, λ n. refl),
      subst (λ p. NotStuck (apply_runs g.H.Host.meaning p (apply_in m) c.args.args.now u)) (sym c.requires.program)
          (apply_safe g.H.Host.meaning g.H.Host.allowed m c.requires.valid c.requires.answers g.met.H.Host.keeps g.met.H.Host.falls c.args.args.now c.requires.arguments u globals later),
    )
