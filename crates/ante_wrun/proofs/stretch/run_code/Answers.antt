use Rattle.std.proofs.Common.{◌≡◌, ℕ, ◌+◌, ◌-◌, sym, ap, ◌∙◌, subst, arith}
use Rattle.ante_wmeaning.specs.declared.ends.RunEnd.TheVariants as end
use Rattle.ante_wmeaning.specs.Environment.{Environment}
use Rattle.ante_wmeaning.specs.RunEnds.{Stops}
use Rattle.ante_wmeaning.specs.Environment.{Begins, past}
use Rattle.ante_wrun.specs.ThreadStates.{goes}
use Rattle.ante_wrun.specs.Stretches.{stepping, WithoutLooks}
use Rattle.ante_wrun.proofs.Stretching.{more_quiet, same_sound, quiet_from, sound_after, in_round, one_more, stayed}
use Rattle.ante_wrun.proofs.stretch.run_code.Goals as goal

pub advance-requires : goal.advance-requires
advance-requires g c =
    let q = c.requires in
    let l = c.instructions in
    let left = q.3 - l.steps in (
      q.0,
      q.1,
      q.2,
      left,
      in_round q.3 c.args.most l.steps q.4 c.instructions-test.true,
      same_sound
          (λ u. goes g.H.Host.meaning q.0 q.2 l.frames l.rest.now l.values (stepping l.values l.globals.items l.memory q.1 left u))
          (λ u. goes g.H.Host.meaning q.0 q.2 c.after_blocks-rest.new.frames c.after_blocks-rest.result.now l.values (stepping l.values l.globals.items l.memory q.1 left u))
          (λ u. c.after_blocks-rest.ensures.same q.0 q.2 l.values (stepping l.values l.globals.items l.memory q.1 left u))
          (sound_after
          (λ v. goes g.H.Host.meaning q.0 q.2 c.args.frames.now c.args.code.now c.args.values.now (stepping c.args.values.now c.args.globals.now.items c.args.memory.now q.1 q.3 v))
          (λ u. goes g.H.Host.meaning q.0 q.2 l.frames l.rest.now l.values (stepping l.values l.globals.items l.memory q.1 left u))
          q.5 (l.invariant.0 q.0 q.1 q.2 q.3 q.4)),
    )

pub instructions-preserved : goal.instructions-preserved
instructions-preserved g c =
    let l = c.instructions in
    let new = c.advance.new in (
      λ program w free left le.
          let at = λ (k : ℕ) (u : Environment). goes g.H.Host.meaning program free new.frames c.in-To.code.now new.values (stepping new.values new.globals.items new.memory w k u) in
          let now = λ (u : Environment). goes g.H.Host.meaning program free l.frames l.rest.now l.values (stepping l.values l.globals.items l.memory w (left - l.steps) u) in
          let then' = λ (u : Environment). goes g.H.Host.meaning program free c.after_blocks-rest.new.frames c.after_blocks-rest.result.now l.values (stepping l.values l.globals.items l.memory w (left - l.steps) u) in
          more_quiet
          (λ v. goes g.H.Host.meaning program free c.args.frames.now c.args.code.now c.args.values.now (stepping c.args.values.now c.args.globals.now.items c.args.memory.now w left v))
          now (λ o u. o ≡ at (left - (l.steps + 1)) u)
          (l.invariant.0 program w free left le)
          (quiet_from now then' (λ o u. o ≡ at (left - (l.steps + 1)) u)
          (λ u. c.after_blocks-rest.ensures.same program free l.values (stepping l.values l.globals.items l.memory w (left - l.steps) u))
          (subst (λ k. WithoutLooks (λ events. (u : Environment) → Begins u events → then' u ≡ at k (past u events))) (one_more left c.args.most l.steps le c.instructions-test.true)
          (c.in-To.ensures.leads program w free (left - l.steps) (in_round left c.args.most l.steps le c.instructions-test.true)))),
      omega (arith, c.instructions-test.true),
      c.advance.ensures.below ∙ l.invariant.2,
      λ below n. c.advance.ensures.nested below (c.after_blocks-rest.ensures.nested below (l.invariant.3 below n)),
    )

pub returns-in-Trap-clause-leads : goal.returns-in-Trap-clause-leads
returns-in-Trap-clause-leads g c = λ program w free left le.
    let l = c.instructions in
    let now = λ (u : Environment). goes g.H.Host.meaning program free l.frames l.rest.now l.values (stepping l.values l.globals.items l.memory w (left - l.steps) u) in
    let then' = λ (u : Environment). goes g.H.Host.meaning program free c.after_blocks-rest.new.frames c.after_blocks-rest.result.now l.values (stepping l.values l.globals.items l.memory w (left - l.steps) u) in
    more_quiet
    (λ v. goes g.H.Host.meaning program free c.args.frames.now c.args.code.now c.args.values.now (stepping c.args.values.now c.args.globals.now.items c.args.memory.now w left v))
    now (λ o u. Stops (end.Trap c.in-Trap.kind) w (left - (l.steps + 1)) u o)
    (l.invariant.0 program w free left le)
    (quiet_from now then' (λ o u. Stops (end.Trap c.in-Trap.kind) w (left - (l.steps + 1)) u o)
    (λ u. c.after_blocks-rest.ensures.same program free l.values (stepping l.values l.globals.items l.memory w (left - l.steps) u))
    (subst (λ k. WithoutLooks (λ events. (u : Environment) → Begins u events → Stops (end.Trap c.in-Trap.kind) w k (past u events) (then' u))) (one_more left c.args.most l.steps le c.instructions-test.true)
    (c.in-Trap.ensures.leads program w free (left - l.steps) (in_round left c.args.most l.steps le c.instructions-test.true))))

pub returns-in-Trap-clause-nested : goal.returns-in-Trap-clause-nested
returns-in-Trap-clause-nested g c = λ below n. c.advance.ensures.nested below (c.after_blocks-rest.ensures.nested below (c.instructions.invariant.3 below n))

pub returns-in-Stays-clause-nested : goal.returns-in-Stays-clause-nested
returns-in-Stays-clause-nested g c = λ below n. c.advance.ensures.nested below (c.after_blocks-rest.ensures.nested below (c.instructions.invariant.3 below n))

pub returns-in-Stays-clause-leads : goal.returns-in-Stays-clause-leads
returns-in-Stays-clause-leads g c = λ program w free left le.
    let l = c.instructions in
    let new = c.advance.new in
    let still = c.advance.ensures.undone c.in-Stays.is in
    let same = λ (u : Environment). c.after_blocks-rest.ensures.same program free l.values (stepping l.values l.globals.items l.memory w (left - l.steps) u)
    ∙ ap (λ fs. goes g.H.Host.meaning program free fs c.after_blocks-rest.result.now l.values (stepping l.values l.globals.items l.memory w (left - l.steps) u)) (sym still.3) in
    let h = l.invariant.0 program w free left le in
    stayed l.values new.values l.globals.items new.globals.items l.memory new.memory (still.0, still.1, still.2)
    (λ v globals memory. WithoutLooks (λ events. (environment : Environment) → Begins environment events →
    goes g.H.Host.meaning program free c.args.frames.now c.args.code.now c.args.values.now (stepping c.args.values.now c.args.globals.now.items c.args.memory.now w left environment)
    ≡ goes g.H.Host.meaning program free new.frames c.after_blocks-rest.result.now v (stepping v globals memory w (left - l.steps) (past environment events))))
    (h.0, λ o b. h.1 o b ∙ same _)
