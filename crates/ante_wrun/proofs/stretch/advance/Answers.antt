use Rattle.std.proofs.Common.{◌≡◌, suc, ◌-◌, refl, ◌∙◌}
use Rattle.ante_wmeaning.specs.declared.ends.RunEnd.TheVariants as end
use Rattle.ante_wmeaning.specs.RunEnds.{Stops}
use Rattle.ante_wvalues.specs.PlainSteps.{plain_of, values_in}
use Rattle.ante_wrun.specs.ThreadStates.{goes}
use Rattle.ante_wmeaning.specs.RunEnds.{NotStuck}
use Rattle.ante_wrun.specs.Stretches.{stepping}
use Rattle.ante_wvalues.proofs.Plains.{untouched}
use Rattle.ante_wrun.proofs.Stretching.{acting, done_leads, trap_leads, next_sound, ready_next, one_quiet, still}
use Rattle.ante_wrun.proofs.stretch.advance.Goals as goal

pub returns-in_default-clause-leads : goal.returns-in_default-clause-leads
returns-in_default-clause-leads g c = λ program w free left r. (0, λ o b. tt)

pub returns-in-None-clause-leads : goal.returns-in-None-clause-leads
returns-in-None-clause-leads g c = λ program w free left r. (0, λ o b. tt)

pub plain-requires : goal.plain-requires
plain-requires g c =
    let q = c.requires in
    record { ready = ready_next g.H.Host.meaning q.0 q.2 c.args.frames.now q.1 c.args.code.now c.in-Some.instr.now c.in-Some.rest.now c.args.values.now c.args.globals.now.items c.args.memory.now q.3 c.in-Some.ensures.cases.0 q.4 q.5 }

pub control_within-requires : goal.control_within-requires
control_within-requires g c =
    let q = c.requires in
    let i = c.in-Some.instr.now in
    let s = next_sound g.H.Host.meaning q.0 q.2 c.args.frames.now q.1 c.args.code.now i c.in-Some.rest.now c.args.values.now c.args.globals.now.items c.args.memory.now q.3 c.in-Some.ensures.cases.0 q.4 q.5 in (
      q.0,
      q.1,
      q.2,
      q.3 - 1,
      suc (q.3 - 1),
      s.0,
      record { values = c.plain.new.values; globals = c.plain.new.globals; memory = c.plain.new.memory },
      still c.args.values.now c.plain.new.values c.args.globals.now.items c.plain.new.globals.items c.args.memory.now c.plain.new.memory
          (untouched (plain_of i) _ _ c.in-Untouched.ensures.effect) c.plain.ensures.below
          (λ v globals memory. NotStuck (acting g.H.Host.meaning q.0 q.2 c.args.frames.now q.1 i c.in-Some.rest.now v (stepping v globals memory q.1 (q.3 - 1) s.0))) s.1,
    )

pub returns-in-Done-clause-leads : goal.returns-in-Done-clause-leads
returns-in-Done-clause-leads g c = λ program w free left r.
    let i = c.in-Some.instr.now in
    let new = c.plain.new in
    one_quiet g.H.Host.meaning program free c.args.frames.now w c.args.code.now i c.in-Some.rest.now c.args.values.now c.args.globals.now.items c.args.memory.now left c.in-Some.ensures.cases.0 r
    (λ x o. x ≡ goes g.H.Host.meaning program free c.args.frames.now c.in-Some.rest.now new.values (stepping new.values new.globals.items new.memory w (left - 1) o))
    (λ o. done_leads g.H.Host.meaning program free c.args.frames.now w i c.in-Some.rest.now c.args.values.now c.args.globals.now.items c.args.memory.now (left - 1) o
    new.values new.globals.items new.memory (ready_next g.H.Host.meaning c.requires.0 c.requires.2 c.args.frames.now c.requires.1 c.args.code.now i c.in-Some.rest.now c.args.values.now c.args.globals.now.items c.args.memory.now c.requires.3 c.in-Some.ensures.cases.0 c.requires.4 c.requires.5) c.in-Done.ensures.effect c.plain.ensures.below)

pub returns-in-Trap-clause-leads : goal.returns-in-Trap-clause-leads
returns-in-Trap-clause-leads g c = λ program w free left r.
    let i = c.in-Some.instr.now in
    let new = c.plain.new in
    one_quiet g.H.Host.meaning program free c.args.frames.now w c.args.code.now i c.in-Some.rest.now c.args.values.now c.args.globals.now.items c.args.memory.now left c.in-Some.ensures.cases.0 r
    (λ x o. Stops (end.Trap c.in-Trap.kind) w (left - 1) o x)
    (λ o. trap_leads g.H.Host.meaning program free c.args.frames.now w i c.in-Some.rest.now c.args.values.now c.args.globals.now.items c.args.memory.now (left - 1) o
    c.in-Trap.kind (values_in new.values new.globals.items new.memory) (ready_next g.H.Host.meaning c.requires.0 c.requires.2 c.args.frames.now c.requires.1 c.args.code.now i c.in-Some.rest.now c.args.values.now c.args.globals.now.items c.args.memory.now c.requires.3 c.in-Some.ensures.cases.0 c.requires.4 c.requires.5) c.in-Trap.ensures.effect)

pub returns-in-Some-control_within-clause-leads : goal.returns-in-Some-control_within-clause-leads
returns-in-Some-control_within-clause-leads g c = λ program w free left r.
    let i = c.in-Some.instr.now in
    let new = c.plain.new in
    let values = c.control_within.new.values in
    one_quiet g.H.Host.meaning program free c.args.frames.now w c.args.code.now i c.in-Some.rest.now c.args.values.now c.args.globals.now.items c.args.memory.now left c.in-Some.ensures.cases.0 r
    (λ x o. x ≡ goes g.H.Host.meaning program free c.control_within.new.frames c.in-Some-control_within.code.now values (stepping values new.globals.items new.memory w (left - 1) o))
    (λ o.
    still c.args.values.now new.values c.args.globals.now.items new.globals.items c.args.memory.now new.memory
    (untouched (plain_of i) _ _ c.in-Untouched.ensures.effect) c.plain.ensures.below
    (λ v globals memory. acting g.H.Host.meaning program free c.args.frames.now w i c.in-Some.rest.now c.args.values.now (stepping c.args.values.now c.args.globals.now.items c.args.memory.now w (left - 1) o)
    ≡ acting g.H.Host.meaning program free c.args.frames.now w i c.in-Some.rest.now v (stepping v globals memory w (left - 1) o)) refl
    ∙ c.in-Some-control_within.ensures.leads program w free (left - 1) (suc (left - 1)) o (record { values = new.values; globals = new.globals; memory = new.memory }))
