use Rattle.std.proofs.Common.{ap, subst, ◌∙◌}
use Rattle.ante_wtree.specs.Expressions.{expression_of}
use Rattle.ante_wmeaning.specs.Configurations.{Normal}
use Rattle.ante_wmeaning.specs.Execution.{does, call}
use Rattle.ante_wrun.specs.ThreadStates.{state_of, under}
use Rattle.ante_wmeaning.specs.RunEnds.{NotStuck}
use Rattle.ante_wrun.proofs.Bodies.{no_items}
use Rattle.ante_wrun.proofs.Rules.{gives_back}
use Rattle.ante_wrun.proofs.thread.next_instr.Goals as goal

pub returns-in-Some-clause-finds : goal.returns-in-Some-clause-finds
returns-in-Some-clause-finds g c = λ program w left last environment.
    let t = c.bodies.thread in
    c.bodies.invariant.0 program w left last environment
    ∙ ap (λ code. under g.H.Host.meaning program t.free t.state.values.below t.frames (does program (call g.H.Host.meaning program t.free) (expression_of code) (state_of t.state w left last environment))) c.in-Some.ensures.cases.0

pub returns-in_default-pop-clause-finds : goal.returns-in_default-pop-clause-finds
returns-in_default-pop-clause-finds g c = λ program w left last environment.
    let t = c.bodies.thread in
    let s = state_of t.state w left last environment in
    c.bodies.invariant.0 program w left last environment
    ∙ ap (λ code. under g.H.Host.meaning program t.free t.state.values.below t.frames (does program (call g.H.Host.meaning program t.free) (expression_of code) s)) (no_items t.code.now c.in_default.ensures.cases)
    ∙ ap (λ fs. under g.H.Host.meaning program t.free t.state.values.below fs (Normal s)) c.in_default-pop.ensures.0

pub bodies-preserved : goal.bodies-preserved
bodies-preserved g c = (
  λ program w left last environment.
      let t = c.bodies.thread in
      let s = state_of t.state w left last environment in
      c.bodies.invariant.0 program w left last environment
      ∙ ap (λ code. under g.H.Host.meaning program t.free t.state.values.below t.frames (does program (call g.H.Host.meaning program t.free) (expression_of code) s)) (no_items t.code.now c.in_default.ensures.cases)
      ∙ ap (λ fs. under g.H.Host.meaning program t.free t.state.values.below fs (Normal s)) c.in-Some-pop.ensures
      ∙ c.resume.ensures.whole program w left last environment,
  c.resume.ensures.nested,
)

pub resume-requires-clause-gives : goal.resume-requires-clause-gives
resume-requires-clause-gives g c =
    let P = c.requires.sound.0 in
    let t = c.bodies.thread in
    let s = state_of t.state c.requires.sound.1 c.requires.sound.2 c.requires.sound.3 c.requires.sound.4 in
    gives_back g.H.Host.meaning P t.free t.state.values.below c.in-Some-pop.frame c.pop.new.self s (subst NotStuck
    (c.bodies.invariant.0 P c.requires.sound.1 c.requires.sound.2 c.requires.sound.3 c.requires.sound.4
    ∙ ap (λ code. under g.H.Host.meaning P t.free t.state.values.below t.frames (does P (call g.H.Host.meaning P t.free) (expression_of code) s)) (no_items t.code.now c.in_default.ensures.cases)
    ∙ ap (λ fs. under g.H.Host.meaning P t.free t.state.values.below fs (Normal s)) c.in-Some-pop.ensures)
    c.requires.sound.5)
