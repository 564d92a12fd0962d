use Rattle.std.proofs.Common.{◌≡◌, ◌∷◌, ◌-◌, length, refl, sym, ap, ◌∙◌, arith}
use Rattle.std.specs.Prelude.{◌==◌}
use Rattle.ante_wtree.specs.Expressions.{cons_shape, expression_of}
use Rattle.ante_wrun.specs.declared.blocks.Frame.TheVariants as frame
use Rattle.ante_wmeaning.specs.PlainInstructions.{low, top}
use Rattle.ante_wmeaning.specs.Execution.{acts, does, call}
use Rattle.ante_wrun.specs.ThreadStates.{state_of, under, goes}
use Rattle.ante_wrun.proofs.Bodies.{again}
use Rattle.ante_wrun.proofs.Calls.{conditional}
use Rattle.ante_wrun.proofs.Rules.{If_is}
use Rattle.ante_wrun.proofs.Landing.{takes, length_popped}
use Rattle.ante_wrun.proofs.blocks.begin_body.Goals as goal

pub overflow_sub-height : goal.overflow_sub-height
overflow_sub-height g c =
    let q = c.requires in
    let rest = expression_of c.args.rest.now in
    let lt = takes g.H.Host.meaning q.0 q.1 q.2 q.3 q.4 q.5 q.6 c.args.frames.now c.args.values.now (cons_shape c.args.shape rest) rest _ _ (ap (λ s. cons_shape s rest) c.in-If.is) refl q.7 in
    omega (arith, lt, c.height-height-in-If.ensures)

pub pop-requires : goal.pop-requires
pop-requires g c =
    let q = c.requires in
    let rest = expression_of c.args.rest.now in
    takes g.H.Host.meaning q.0 q.1 q.2 q.3 q.4 q.5 q.6 c.args.frames.now c.args.values.now (cons_shape c.args.shape rest) rest _ _ (ap (λ s. cons_shape s rest) c.in-If.is) refl q.7

-- a loop
pub returns-in-Ok-push-clause-leads : goal.returns-in-Ok-push-clause-leads
returns-in-Ok-push-clause-leads g c = λ program w free left last o d.
    let v = c.args.values.now in
    let fs = c.args.frames.now in
    let s = state_of (record d { values = v }) w left last o in
    let body = c.in-Loop.body in
    ap (λ x. under g.H.Host.meaning program free v.below fs (acts program (call g.H.Host.meaning program free) x s)) (ap (λ s. cons_shape s (expression_of c.args.rest.now)) c.in-Loop.is)
    ∙ again g.H.Host.meaning program w left last o g.met.H.Host.falls free v.below fs (length v.stack) body c.args.rest s
    ∙ ap (λ h. under g.H.Host.meaning program free v.below (frame.Loop h body c.args.rest ∷ fs) (does program (call g.H.Host.meaning program free) (expression_of body.now) s)) (sym c.height-height-in-Loop.ensures)
    ∙ ap (λ x. goes g.H.Host.meaning program free x body.now v s) (sym c.in-Ok-push.ensures.ok)

-- an `if`
pub returns-in-Ok-push-2-clause-leads : goal.returns-in-Ok-push-2-clause-leads
returns-in-Ok-push-2-clause-leads g c = λ program w free left last o d.
    let q = c.requires in
    let rest = expression_of c.args.rest.now in
    let v = c.args.values.now in
    let fs = c.args.frames.now in
    let s = state_of (record d { values = v }) w left last o in
    let lt = takes g.H.Host.meaning q.0 q.1 q.2 q.3 q.4 q.5 q.6 fs v (cons_shape c.args.shape rest) rest _ _ (ap (λ s. cons_shape s rest) c.in-If.is) refl q.7 in
    let n : low (top v.stack) ≡ c.low-test.result = sym (c.low-test.ensures ∙ ap low c.pop.ensures.value) in
    let height : c.height-height-in-If.result - 1 ≡ length c.pop.new.self.stack = ap (λ k. k - 1) c.height-height-in-If.ensures ∙ length_popped v.stack lt ∙ ap (λ y. length y.stack) (sym c.pop.ensures.rest) in
    ap (λ x. under g.H.Host.meaning program free v.below fs (acts program (call g.H.Host.meaning program free) x s)) (ap (λ s. cons_shape s rest) c.in-If.is)
    ∙ ap (under g.H.Host.meaning program free v.below fs) (If_is program (call g.H.Host.meaning program free) s lt c.in-If.kind (expression_of c.in-If.one.now) (expression_of c.in-If.two.now) rest)
    ∙ conditional g.H.Host.meaning program w left last o free fs c.push-in-If.new.self (record d { values = v }) c.in-If.kind (c.height-height-in-If.result - 1) c.args.rest c.in-If.one c.in-If.two c.chosen.result
    (low (top v.stack) == 0) (c.low-test.result == 0) c.pop.new.self (ap (λ k. k == 0) n) c.chosen.ensures c.pop.ensures.rest height c.in-Ok-push-2.ensures.ok

-- a block
pub returns-in-Ok-clause-leads : goal.returns-in-Ok-clause-leads
returns-in-Ok-clause-leads g c = λ program w free left last o d.
    let v = c.args.values.now in
    let fs = c.args.frames.now in
    let s = state_of (record d { values = v }) w left last o in
    let body = c.in-Block.body in
    ap (λ x. under g.H.Host.meaning program free v.below fs (acts program (call g.H.Host.meaning program free) (cons_shape x (expression_of c.args.rest.now)) s)) c.in-Block.is
    ∙ ap (λ h. under g.H.Host.meaning program free v.below (frame.Block c.in-Block.kind h c.args.rest ∷ fs) (does program (call g.H.Host.meaning program free) (expression_of body.now) s)) (sym c.height-height.ensures)
    ∙ ap (λ x. goes g.H.Host.meaning program free x body.now v s) (sym c.in-Ok.ensures.ok)
