use Rattle.std.proofs.Common.{◌≡◌, ◌+◌, ◌<◌, ◌≤◌, refl, ap, ◌∙◌, arith}
use Rattle.std.proofs.lemmas.Bool.{le-leb}
use Rattle.ante_wmem.specs.Linear.{page_count}
use Rattle.ante_wmeaning.specs.declared.ends.RunEnd.TheVariants as end
use Rattle.ante_wmeaning.specs.PlainInstructions.{low, top, popped}
use Rattle.ante_wmeaning.specs.Configurations.{on_stack}
use Rattle.ante_wmeaning.specs.Execution.{grow}
use Rattle.ante_wrun.specs.ThreadStates.{state_of, rest_of}
use Rattle.ante_wrun.proofs.Calls.{stops, dear}
use Rattle.ante_wrun.proofs.control.grow.Goals as goal

pub returns-then-from-left-clause-leads : goal.returns-then-from-left-clause-leads
returns-then-from-left-clause-leads g c = λ program w last environment.
    let t = c.args.thread.now in
    let stack = t.state.values.stack in
    let s = on_stack (state_of t.state w c.args.left.now last environment) (popped stack) in
    let n : c.low-pages.result ≡ low (top stack) = c.low-pages.ensures ∙ ap low c.pop.ensures.value in
    let fits : page_count t.state.memory + low (top stack) ≤ t.state.memory.most = omega (arith, n, c.if-grows.true, c.pages.ensures.count, c.pages.ensures.room, c.most.ensures) in
    let lt : c.args.left.now < low (top stack) = omega (arith, n, c.if-from-left.true, c.from.ensures) in (
      stops g.H.Host.meaning program t.free t.state.values.below t.frames (rest_of g.H.Host.meaning program t) (grow (low (top stack)) s) end.StepLimit (record s { left = 0 })
          (dear g.row.H-Refusal.Denot (low (top stack)) s (le-leb (page_count t.state.memory + low (top stack)) t.state.memory.most fits) lt),
      refl,
    )
