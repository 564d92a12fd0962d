use Rattle.std.proofs.Common.{◌≡◌, ℕ, List, length, refl, sym, ap, subst, ◌∙◌}
use Rattle.ante_wmem.specs.declared.host.HostAnswer.TheVariants as answer
use Rattle.ante_wmeaning.specs.declared.ends.RunEnd.TheVariants as end
use Rattle.ante_wmeaning.specs.PlainInstructions.{popped}
use Rattle.ante_wmeaning.specs.Environment.{after_call}
use Rattle.ante_wmeaning.specs.Configurations.{on_stack, stack_of}
use Rattle.ante_wmeaning.specs.Execution.{and_then, arguments}
use Rattle.ante_wrun.specs.ThreadStates.{state_of, rest_of, under}
use Rattle.ante_wmeaning.specs.RunEnds.{Ends, Lacking}
use Rattle.ante_wrun.proofs.Calls.{ended}
use Rattle.ante_wrun.proofs.Turning.{replied, unsupplied, in_host}
use Rattle.ante_wtree.specs.declared.instructions.ValueKind.{ValueKind}
use Rattle.ante_wtree.specs.Types.{masked}
use Rattle.ante_wrun.proofs.run.host_call.Goals as goal

lent : (params kinds : List ValueKind) (count : ℕ) (old new args : List ℕ) → kinds ≡ params → count ≡ length params → arguments (length kinds) new ≡ masked kinds (arguments (length kinds) old) → args ≡ arguments count new →
    args ≡ masked params (arguments (length params) old)
lent params kinds count old new args e n m a = a ∙ ap (λ k. arguments k new) n ∙ subst (λ ks. arguments (length ks) new ≡ masked ks (arguments (length ks) old)) e m

pub returns-in-Exit-clause-leads : goal.returns-in-Exit-clause-leads
returns-in-Exit-clause-leads g c = λ program last environment lacks.
    let t = c.args.thread.now in
    let kind = c.args.kind.now in
    let s = on_stack (state_of t.state c.args.host.now c.args.left.now last environment) (popped t.state.values.stack) in
    let args = masked kind.params (arguments (length kind.params) (stack_of s)) in
    let a : c.arguments-args.result.now ≡ args = lent kind.params c.as_slice.result.now c.len-count.result (popped t.state.values.stack) (popped c.mask.new.self.stack) c.arguments-args.result.now c.as_slice.ensures c.len-count.ensures c.mask.ensures.arguments c.arguments-args.ensures in
    let o = ap (λ x. under g.H.Host.meaning program t.free t.state.values.below t.frames (and_then x (rest_of g.H.Host.meaning program t)))
    (replied g.H.Host.meaning kind c.args.number s c.arguments-args.result.now _ a lacks c.in-Exit.ensures.answer)
    ∙ ended g.H.Host.meaning program t.free t.state.values.below t.frames end.Exit _ in
    subst (Ends g.H.Host.stands end.Exit c.call.new.self c.call.new.left (after_call environment)) (sym o) (refl, refl, refl, refl)

pub returns-in-Refused-clause-leads : goal.returns-in-Refused-clause-leads
returns-in-Refused-clause-leads g c = λ program last environment lacks.
    let t = c.args.thread.now in
    let kind = c.args.kind.now in
    let s = on_stack (state_of t.state c.args.host.now c.args.left.now last environment) (popped t.state.values.stack) in
    let args = masked kind.params (arguments (length kind.params) (stack_of s)) in
    let a : c.arguments-args.result.now ≡ args = lent kind.params c.as_slice.result.now c.len-count.result (popped t.state.values.stack) (popped c.mask.new.self.stack) c.arguments-args.result.now c.as_slice.ensures c.len-count.ensures c.mask.ensures.arguments c.arguments-args.ensures in
    let o = ap (λ x. under g.H.Host.meaning program t.free t.state.values.below t.frames (and_then x (rest_of g.H.Host.meaning program t)))
    (replied g.H.Host.meaning kind c.args.number s c.arguments-args.result.now _ a lacks c.in-Refused.ensures.answer.0)
    ∙ in_host g.H.Host.meaning program t.free t.state.values.below t.frames c.args.number args (answer.Refused c.in-Refused.refusal) c.call.new.left _ in
    subst (Ends g.H.Host.stands (end.Refused c.in-Refused.refusal) c.call.new.self c.call.new.left (after_call environment)) (sym o)
    (refl, subst (λ x. g.H.Host.stands s.world c.args.number x s.values.memory s.left (answer.Refused c.in-Refused.refusal) c.call.new.self) a c.in-Refused.ensures.answer.1, refl, refl)

pub returns-in-StepLimit-clause-leads : goal.returns-in-StepLimit-clause-leads
returns-in-StepLimit-clause-leads g c = λ program last environment lacks.
    let t = c.args.thread.now in
    let kind = c.args.kind.now in
    let s = on_stack (state_of t.state c.args.host.now c.args.left.now last environment) (popped t.state.values.stack) in
    let args = masked kind.params (arguments (length kind.params) (stack_of s)) in
    let a : c.arguments-args.result.now ≡ args = lent kind.params c.as_slice.result.now c.len-count.result (popped t.state.values.stack) (popped c.mask.new.self.stack) c.arguments-args.result.now c.as_slice.ensures c.len-count.ensures c.mask.ensures.arguments c.arguments-args.ensures in
    let o = ap (λ x. under g.H.Host.meaning program t.free t.state.values.below t.frames (and_then x (rest_of g.H.Host.meaning program t)))
    (replied g.H.Host.meaning kind c.args.number s c.arguments-args.result.now _ a lacks c.in-StepLimit.ensures.answer.0)
    ∙ in_host g.H.Host.meaning program t.free t.state.values.below t.frames c.args.number args answer.StepLimit c.call.new.left _ in
    subst (Ends g.H.Host.stands end.StepLimit c.call.new.self 0 (after_call environment)) (sym o)
    (refl, subst (λ x. g.H.Host.stands s.world c.args.number x s.values.memory s.left answer.StepLimit c.call.new.self) a c.in-StepLimit.ensures.answer.1, refl, refl)

pub returns-in-OutOfMemory-clause-leads : goal.returns-in-OutOfMemory-clause-leads
returns-in-OutOfMemory-clause-leads g c = λ program last environment lacks.
    let t = c.args.thread.now in
    let kind = c.args.kind.now in
    let s = on_stack (state_of t.state c.args.host.now c.args.left.now last environment) (popped t.state.values.stack) in
    let args = masked kind.params (arguments (length kind.params) (stack_of s)) in
    let a : c.arguments-args.result.now ≡ args = lent kind.params c.as_slice.result.now c.len-count.result (popped t.state.values.stack) (popped c.mask.new.self.stack) c.arguments-args.result.now c.as_slice.ensures c.len-count.ensures c.mask.ensures.arguments c.arguments-args.ensures in
    let o = ap (λ x. under g.H.Host.meaning program t.free t.state.values.below t.frames (and_then x (rest_of g.H.Host.meaning program t)))
    (unsupplied g.H.Host.meaning kind c.args.number s lacks)
    ∙ in_host g.H.Host.meaning program t.free t.state.values.below t.frames c.args.number args answer.OutOfMemory s.left s in
    subst (Lacking g.H.Host.stands c.call.new.self c.call.new.left environment) (sym o)
    (subst (λ x. g.H.Host.stands s.world c.args.number x s.values.memory s.left answer.OutOfMemory c.call.new.self) a c.in-OutOfMemory.ensures.answer, c.in-OutOfMemory.ensures.left, refl)
