use Rattle.std.proofs.Common.{◌≡◌, None, IsSome, sym, subst, ◌∙◌, ap}
use Rattle.ante_pack.specs.Forms.{list_of}
use Rattle.ante_types.specs.Chain.{receipt}
use Rattle.ante_verdicts.specs.Judge.{Judge}
use Rattle.ante_fork.specs.Rules.{refusal}
use Rattle.ante_control.specs.Chosen.{play_of}
use Rattle.ante_control.proofs.Crowning.{IsSealing, made_fits, next_of, sealing_standing, sealing_held, sealing_crowned, sealing_pushed}
use Rattle.ante_control.proofs.Lengths.{receipts_fit}
use Rattle.ante_control.proofs.Making.{never_idle}
use Rattle.ante_control.proofs.chain.Chain.seal.Goals as goal

pub unreachable-requires : goal.unreachable-requires
unreachable-requires g c =
    never_idle c.self.inside.tree c.self.inside.pending c.self.inside.receipts.items c.self.inside.size (g.M.BlockMachine.pending c.self.inside.machine) c.in_default.is
    (subst (λ v. IsSome v.pending) (sym c.self.view_is) c.requires.pending) c.self.invariant.1

pub block_from-requires-clause-fits : goal.block_from-requires-clause-fits
block_from-requires-clause-fits g c =
    subst (list_of receipt).Fits (sym c.as_slice.ensures.value) (receipts_fit c.self.inside.receipts.items c.self.invariant.1.fits c.self.invariant.1.small)

pub crown-requires-clause-fits : goal.crown-requires-clause-fits
crown-requires-clause-fits g c =
    subst (list_of receipt).Fits (sym (ap (λ b. b.receipts) c.in_ok-block.ensures ∙ c.as_slice.ensures.value))
    (receipts_fit c.self.inside.receipts.items c.self.invariant.1.fits c.self.invariant.1.small)

pub crown-requires-clause-passes : goal.crown-requires-clause-passes
crown-requires-clause-passes g c =
    let next =
    next_of c.self.inside.tree c.self.inside.pending c.in-Some.info c.self.inside.receipts.items c.self.inside.size (g.M.BlockMachine.pending c.self.inside.machine) c.self.invariant.1 c.in-Some.is in
    subst (λ b. refusal c.self.inside.tree b ≡ None) (sym c.in_ok-block.ensures)
    (made_fits (g.V.Verdicts.judge c.args.verdicts.now) c.self.inside.tree c.in-Some.info c.as_slice.result.now c.self.invariant.0.tree c.self.invariant.0.topmost next)

pub invariant_of-self-2 : goal.invariant_of-self-2
invariant_of-self-2 g c =
    let judge : Judge = g.V.Verdicts.judge c.args.verdicts.now in
    let k : IsSealing judge (g.M.BlockMachine.steps.finish (g.M.Worlds.chain_id c.self.inside.machine)) c.self.inside.pending c.in-Some.info c.as_slice.result.now c.self.inside.receipts.items c.self.inside.size
    c.in_ok-block.block c.self.inside.tree c.crown.new.tree c.self.inside.applied.items c.crown.new.applied.items (g.M.Worlds.stack c.self.inside.machine) (g.M.Worlds.stack c.crown.new.machine)
    (g.M.BlockMachine.pending c.self.inside.machine) (g.M.BlockMachine.pending c.crown.new.machine) = record {
      some = subst (λ v. IsSome v.pending) (sym c.self.view_is) c.requires.pending;
      held = c.self.invariant.1;
      given = c.in-Some.is;
      copied = c.as_slice.ensures.value;
      made = c.in_ok-block.ensures;
      tree = c.in_ok-head.ensures.tree;
      applied = c.in_ok-head.ensures.applied;
      stack = c.in_ok-head.ensures.stack;
      idle = c.in_ok-head.ensures.idle;
      seals = λ producer id. g.met.V.Verdicts.seals c.args.verdicts.now producer id;
    } in (
      sealing_standing judge (g.M.BlockMachine.steps.finish (g.M.Worlds.chain_id c.self.inside.machine)) c.self.inside.pending c.in-Some.info c.as_slice.result.now c.self.inside.receipts.items c.self.inside.size
          c.in_ok-block.block c.self.inside.tree c.crown.new.tree c.self.inside.applied.items c.crown.new.applied.items (g.M.Worlds.chain_id c.self.inside.machine) (g.M.Worlds.chain_id c.crown.new.machine)
          (g.M.Worlds.stack c.self.inside.machine) (g.M.Worlds.stack c.crown.new.machine) (g.M.BlockMachine.counted c.self.inside.machine) (g.M.BlockMachine.counted c.crown.new.machine)
          (g.M.BlockMachine.pending c.self.inside.machine) (g.M.BlockMachine.pending c.crown.new.machine) c.self.invariant.0 k,
      sealing_held judge (g.M.BlockMachine.steps.finish (g.M.Worlds.chain_id c.self.inside.machine)) c.self.inside.pending c.in-Some.info c.as_slice.result.now c.self.inside.receipts.items c.self.inside.size
          c.in_ok-block.block c.self.inside.tree c.crown.new.tree c.self.inside.applied.items c.crown.new.applied.items (g.M.Worlds.chain_id c.self.inside.machine) (g.M.Worlds.chain_id c.crown.new.machine)
          (g.M.Worlds.stack c.self.inside.machine) (g.M.Worlds.stack c.crown.new.machine) (g.M.BlockMachine.counted c.self.inside.machine) (g.M.BlockMachine.counted c.crown.new.machine)
          (g.M.BlockMachine.pending c.self.inside.machine) (g.M.BlockMachine.pending c.crown.new.machine) k,
    )

pub returns-clause-crowned : goal.returns-clause-crowned
returns-clause-crowned g c =
    rw (← c.self.view_is) (
    let judge : Judge = g.V.Verdicts.judge c.args.verdicts.now in
    let k : IsSealing judge (g.M.BlockMachine.steps.finish (g.M.Worlds.chain_id c.self.inside.machine)) c.self.inside.pending c.in-Some.info c.as_slice.result.now c.self.inside.receipts.items c.self.inside.size
    c.in_ok-block.block c.self.inside.tree c.crown.new.tree c.self.inside.applied.items c.crown.new.applied.items (g.M.Worlds.stack c.self.inside.machine) (g.M.Worlds.stack c.crown.new.machine)
    (g.M.BlockMachine.pending c.self.inside.machine) (g.M.BlockMachine.pending c.crown.new.machine) = record {
      some = subst (λ v. IsSome v.pending) (sym c.self.view_is) c.requires.pending;
      held = c.self.invariant.1;
      given = c.in-Some.is;
      copied = c.as_slice.ensures.value;
      made = c.in_ok-block.ensures;
      tree = c.in_ok-head.ensures.tree;
      applied = c.in_ok-head.ensures.applied;
      stack = c.in_ok-head.ensures.stack;
      idle = c.in_ok-head.ensures.idle;
      seals = λ producer id. g.met.V.Verdicts.seals c.args.verdicts.now producer id;
    } in
    sealing_crowned judge (g.M.BlockMachine.steps.finish (g.M.Worlds.chain_id c.self.inside.machine)) c.self.inside.pending c.in-Some.info c.as_slice.result.now c.self.inside.receipts.items c.self.inside.size
    c.in_ok-block.block c.self.inside.tree c.crown.new.tree c.self.inside.applied.items c.crown.new.applied.items (g.M.Worlds.chain_id c.self.inside.machine) (g.M.Worlds.chain_id c.crown.new.machine)
    (g.M.Worlds.stack c.self.inside.machine) (g.M.Worlds.stack c.crown.new.machine) (g.M.BlockMachine.counted c.self.inside.machine) (g.M.BlockMachine.counted c.crown.new.machine)
    (g.M.BlockMachine.pending c.self.inside.machine) (g.M.BlockMachine.pending c.crown.new.machine) c.self.invariant.0 k)

pub returns-clause-pushed : goal.returns-clause-pushed
returns-clause-pushed g c =
    rw (← c.self.view_is) (λ first tabled made.
    let judge : Judge = g.V.Verdicts.judge c.args.verdicts.now in
    let k : IsSealing judge (g.M.BlockMachine.steps.finish (g.M.Worlds.chain_id c.self.inside.machine)) c.self.inside.pending c.in-Some.info c.as_slice.result.now c.self.inside.receipts.items c.self.inside.size
    c.in_ok-block.block c.self.inside.tree c.crown.new.tree c.self.inside.applied.items c.crown.new.applied.items (g.M.Worlds.stack c.self.inside.machine) (g.M.Worlds.stack c.crown.new.machine)
    (g.M.BlockMachine.pending c.self.inside.machine) (g.M.BlockMachine.pending c.crown.new.machine) = record {
      some = subst (λ v. IsSome v.pending) (sym c.self.view_is) c.requires.pending;
      held = c.self.invariant.1;
      given = c.in-Some.is;
      copied = c.as_slice.ensures.value;
      made = c.in_ok-block.ensures;
      tree = c.in_ok-head.ensures.tree;
      applied = c.in_ok-head.ensures.applied;
      stack = c.in_ok-head.ensures.stack;
      idle = c.in_ok-head.ensures.idle;
      seals = λ producer id. g.met.V.Verdicts.seals c.args.verdicts.now producer id;
    } in
    let play = play_of g.M.BlockMachine.steps judge (g.M.Worlds.chain_id c.self.inside.machine) first in
    sealing_pushed play c.self.inside.pending c.in-Some.info c.as_slice.result.now c.self.inside.receipts.items c.self.inside.size
    c.in_ok-block.block c.self.inside.tree c.crown.new.tree c.self.inside.applied.items c.crown.new.applied.items (g.M.Worlds.chain_id c.self.inside.machine) (g.M.Worlds.chain_id c.crown.new.machine)
    (g.M.Worlds.stack c.self.inside.machine) (g.M.Worlds.stack c.crown.new.machine) (g.M.BlockMachine.counted c.self.inside.machine) (g.M.BlockMachine.counted c.crown.new.machine)
    (g.M.BlockMachine.pending c.self.inside.machine) (g.M.BlockMachine.pending c.crown.new.machine) c.self.invariant.0 k tabled made)
