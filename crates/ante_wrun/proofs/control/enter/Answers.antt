use Rattle.std.proofs.Common.{ℕ, ◌-◌, [], ◌∷◌, ◌++◌, length, drop, reverse, replicate, ap, ◌∙◌, arith}
use Rattle.ante_wtree.specs.Expressions.{expression_of}
use Rattle.ante_wtree.specs.Types.{result_of}
use Rattle.ante_wmeaning.specs.declared.ends.RunEnd.TheVariants as end
use Rattle.ante_wrun.specs.declared.blocks.Frame.TheVariants as frame
use Rattle.ante_wmeaning.specs.Execution.{arguments}
use Rattle.ante_wvalues.specs.FrameValues.{FrameValues}
use Rattle.ante_wrun.specs.ThreadStates.{state_of, rest_of}
use Rattle.ante_wrun.specs.Control.{own_at}
use Rattle.ante_wrun.proofs.Calls.{stops, enters}
use Rattle.ante_wrun.proofs.control.enter.Goals as goal

abbrev later : FrameValues → ℕ → ℕ → FrameValues
later v n zeros = record { below = v.below ++ (v.locals ++ reverse (drop n v.stack)); locals = arguments n v.stack ++ replicate zeros 0; stack = [] }

pub returns-then-thread-eq0-clause-leads : goal.returns-then-thread-eq0-clause-leads
returns-then-thread-eq0-clause-leads g c = λ program w left last environment.
    let t = c.args.thread.now in
    let s = state_of t.state w left last environment in
    stops g.H.Host.meaning program t.free t.state.values.below t.frames (rest_of g.H.Host.meaning program t)
    (own_at g.H.Host.meaning program t.free c.args.kind.now c.args.locals (expression_of c.args.body.now) s) end.CallDepth s
    (ap (λ k. own_at g.H.Host.meaning program k c.args.kind.now c.args.locals (expression_of c.args.body.now) s) c.if-thread-eq0.true)

pub returns-clause-leads : goal.returns-clause-leads
returns-clause-leads g c = λ program w left last environment.
    let t = c.args.thread.now in
    let v = t.state.values in
    enters g.H.Host.meaning program w left last environment t.free (t.free - 1) t.frames c.push.new.self t.state t.code c.args.body c.args.kind.now c.args.locals c.enter.new.self
    (omega (arith, c.if-thread-eq0.false))
    (c.in_ok-push.ensures.ok
    ∙ ap (λ k. frame.Call k c.below.result c.local_count.result t.free t.code ∷ t.frames) (c.result_of.ensures ∙ ap result_of c.as_slice.ensures)
    ∙ ap (λ k. frame.Call (result_of c.args.kind.now.results) k c.local_count.result t.free t.code ∷ t.frames) c.below.ensures
    ∙ ap (λ k. frame.Call (result_of c.args.kind.now.results) (length v.below) k t.free t.code ∷ t.frames) c.local_count.ensures)
    (c.in_ok-enter.ensures.ok ∙ ap (λ n. later v n c.args.locals) c.len-params.ensures)
