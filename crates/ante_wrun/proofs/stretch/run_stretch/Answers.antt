use Rattle.std.proofs.Common.{◌≡◌, suc, ◌-◌, sym, subst, ap, ◌∙◌, arith}
use Rattle.ante_wmeaning.specs.Environment.{Environment}
use Rattle.ante_wrun.specs.ThreadStates.{goes, state_of, going}
use Rattle.ante_wmeaning.specs.RunEnds.{Sound}
use Rattle.ante_wrun.specs.Stretches.{stepping}
use Rattle.ante_wrun.proofs.Stretching.{as_thread}
use Rattle.ante_wrun.proofs.stretch.run_stretch.Goals as goal

pub run_code-done-requires : goal.run_code-done-requires
run_code-done-requires g c =
    let q = c.requires.sound in
    let t = c.args.thread.now in
    let left = c.args.left.now in
    let one : c.args.last.now ≡ suc left = omega (arith, c.if-last-left.false, c.if-last-left-gt1.false) in (
      q.0,
      q.1,
      t.free,
      left,
      omega arith,
      subst (λ v. Sound (λ o. goes g.H.Host.meaning q.0 t.free t.frames t.code.now v (stepping v t.state.globals.items t.state.memory q.1 left o))) (sym c.replace-values.ensures.value)
          (subst (λ n. Sound (λ o. going g.H.Host.meaning q.0 t (state_of t.state q.1 left n o))) one q.2),
    )

pub returns-clause-leads : goal.returns-clause-leads
returns-clause-leads g c = λ program w.
    let t = c.args.thread.now in
    let left = c.args.left.now in
    let done = c.run_code-done.result in
    let one : c.args.last.now ≡ suc left = omega (arith, c.if-last-left.false, c.if-last-left-gt1.false) in
    let few = c.run_code-done.ensures.few in
    let last : c.args.last.now - done.steps ≡ suc (left - done.steps) = omega (arith, one, few) in
    let same = λ (o : Environment). ap (λ n. going g.H.Host.meaning program t (state_of t.state w left n o)) one
    ∙ ap (λ v. goes g.H.Host.meaning program t.free t.frames t.code.now v (stepping v t.state.globals.items t.state.memory w left o)) (sym c.replace-values.ensures.value) in
    let h = c.run_code-done.ensures.leads program w t.free left (omega arith) in (
      h.0,
      λ o b. as_thread g.H.Host.meaning program _ done.trap w (left - done.steps) (c.args.last.now - done.steps) _ _ _ (same o) last (h.1 o b),
    )
