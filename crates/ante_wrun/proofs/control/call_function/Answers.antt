use Rattle.std.proofs.Common.{◌≤◌, Some, length, refl, sym, ap, subst, ◌∙◌, arith}
use Rattle.std.proofs.lemmas.Bool.{le-leb}
use Rattle.std.proofs.lemmas.Option.{slice_get_read}
use Rattle.ante_wtree.specs.Expressions.{expression_of}
use Rattle.ante_wmeaning.specs.PlainInstructions.{popped}
use Rattle.ante_wmeaning.specs.Configurations.{Own, Given, on_stack}
use Rattle.ante_wmeaning.specs.Execution.{and_then, only_if, call_host}
use Rattle.ante_wrun.specs.ThreadStates.{state_of, rest_of, under, after}
use Rattle.ante_wrun.specs.Control.{instance_of, program_of, own_at, Leads, Takes}
use Rattle.ante_wrun.proofs.Calls.{found, within, if_ok, calls}
use Rattle.ante_wrun.proofs.control.call_function.Goals as goal

pub returns-in-Own-clause-leads : goal.returns-in-Own-clause-leads
returns-in-Own-clause-leads g c =
    let program = program_of c.args.functions.now in
    let t = c.args.thread.now in
    let all = c.args.functions.now.all.items in
    let lt = within all c.args.at (length t.state.values.stack) c.requires.takes in
    let f = found all c.args.at (Some c.index.result.now) (sym (slice_get_read all (length all) c.args.at c.index.result.now refl lt c.index.ensures)) ∙ ap (λ f. Some (instance_of f)) c.in-Own.is in
    let le : length c.in-Own.kind.now.params ≤ length t.state.values.stack = subst (λ o. Takes o (length t.state.values.stack)) f c.requires.takes in
    if_ok c.enter.result _ _
    (λ next h w left last environment.
    let s = state_of t.state w left last environment in
    subst (λ o. Leads g.H.Host.meaning program (after g.H.Host.meaning program t o) next c.enter.new.thread w left last environment)
    (sym (calls g.H.Host.meaning program t.free c.args.at s (Some (Own c.in-Own.kind.now c.in-Own.locals (expression_of c.in-Own.body.now))) f
    ∙ ap (λ b. only_if b (own_at g.H.Host.meaning program t.free c.in-Own.kind.now c.in-Own.locals (expression_of c.in-Own.body.now) s)) (le-leb (length c.in-Own.kind.now.params) (length t.state.values.stack) le)))
    (h program w left last environment))
    c.enter.ensures.leads

pub returns-in_ok-push_with_room-in-Host-clause-leads : goal.returns-in_ok-push_with_room-in-Host-clause-leads
returns-in_ok-push_with_room-in-Host-clause-leads g c = λ w left last environment.
    let program = program_of c.args.functions.now in
    let t = c.args.thread.now in
    let all = c.args.functions.now.all.items in
    let s = state_of t.state w left last environment in
    let kind = c.in-Host.kind.now in
    let number = c.in-Host.number in
    let lt = within all c.args.at (length t.state.values.stack) c.requires.takes in
    let f = found all c.args.at (Some c.index.result.now) (sym (slice_get_read all (length all) c.args.at c.index.result.now refl lt c.index.ensures)) ∙ ap (λ f. Some (instance_of f)) c.in-Host.is in
    let le : length kind.params ≤ length t.state.values.stack = subst (λ o. Takes o (length t.state.values.stack)) f c.requires.takes in (
      ap (after g.H.Host.meaning program t)
          (calls g.H.Host.meaning program t.free c.args.at s (Some (Given kind number)) f
          ∙ ap (λ b. only_if b (call_host g.H.Host.meaning kind number s)) (le-leb (length kind.params) (length t.state.values.stack) le))
          ∙ ap (λ v. under g.H.Host.meaning program t.free v.below t.frames
          (and_then (call_host g.H.Host.meaning kind number (on_stack (state_of (record t.state { values = v }) w left last environment) (popped v.stack))) (rest_of g.H.Host.meaning program t)))
          (sym c.in_ok-push_with_room-in-Host.ensures.ok),
      omega (arith, le, ap (λ v. length v.stack) c.in_ok-push_with_room-in-Host.ensures.ok),
      (c.args.at, f),
    )

pub returns-in_ok-push_with_room-in-Host-clause-given : goal.returns-in_ok-push_with_room-in-Host-clause-given
returns-in_ok-push_with_room-in-Host-clause-given g c =
    let all = c.args.functions.now.all.items in
    let lt = within all c.args.at (length c.args.thread.now.state.values.stack) c.requires.takes in
    found all c.args.at (Some c.index.result.now) (sym (slice_get_read all (length all) c.args.at c.index.result.now refl lt c.index.ensures)) ∙ ap (λ f. Some (instance_of f)) c.in-Host.is
