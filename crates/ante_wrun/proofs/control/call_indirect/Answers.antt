use Rattle.std.proofs.Common.{◌≡◌, Some, Ok, Err, sym, ap, subst, ◌∙◌}
use Rattle.ante_wmeaning.specs.declared.ends.RunEnd.TheVariants as end
use Rattle.ante_wmeaning.specs.PlainInstructions.{low, top, popped}
use Rattle.ante_wmeaning.specs.Configurations.{on_stack}
use Rattle.ante_wmeaning.specs.Execution.{and_then, target, element, call}
use Rattle.ante_wrun.specs.ThreadStates.{state_of, rest_of, under, after}
use Rattle.ante_wrun.specs.Control.{program_of, Leads}
use Rattle.ante_wrun.proofs.Calls.{if_ok, stops}
use Rattle.ante_wrun.proofs.control.call_indirect.Goals as goal

pub returns-in-Ok-clause-leads : goal.returns-in-Ok-clause-leads
returns-in-Ok-clause-leads g c =
    let P = program_of c.args.functions.now in
    let t = c.args.thread.now in
    let K = call g.H.Host.meaning P t.free in
    let stack = t.state.values.stack in
    let e : element P c.args.wanted (low (top stack)) ≡ Some (Ok c.in-Ok.function) =
    ap (element P c.args.wanted) (sym (c.low-at.ensures ∙ ap low c.pop.ensures.value)) ∙ c.element.ensures ∙ ap Some c.in-Ok.is in
    if_ok c.call_function.result _ _
    (λ next h w left last environment.
    let s = on_stack (state_of t.state w left last environment) (popped stack) in
    subst (λ o. Leads g.H.Host.meaning P o next c.call_function.new.thread w left last environment)
    (sym (ap (λ r. after g.H.Host.meaning P t (target r K s)) e
    ∙ ap (λ v. under g.H.Host.meaning P t.free v.below t.frames (and_then (K c.in-Ok.function (state_of (record t.state { values = v }) w left last environment)) (rest_of g.H.Host.meaning P t))) (sym c.pop.ensures.rest)))
    (h w left last environment))
    c.call_function.ensures.leads

pub returns-in-Err-clause-leads : goal.returns-in-Err-clause-leads
returns-in-Err-clause-leads g c = λ w left last environment.
    let P = program_of c.args.functions.now in
    let t = c.args.thread.now in
    let K = call g.H.Host.meaning P t.free in
    let stack = t.state.values.stack in
    let e : element P c.args.wanted (low (top stack)) ≡ Some (Err c.in-Err.kind) =
    ap (element P c.args.wanted) (sym (c.low-at.ensures ∙ ap low c.pop.ensures.value)) ∙ c.element.ensures ∙ ap Some c.in-Err.is in
    let s = on_stack (state_of t.state w left last environment) (popped stack) in
    stops g.H.Host.meaning P t.free t.state.values.below t.frames (rest_of g.H.Host.meaning P t) (target (element P c.args.wanted (low (top stack))) K s) (end.Trap c.in-Err.kind) s (ap (λ r. target r K s) e)
