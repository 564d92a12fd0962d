use Rattle.std.proofs.Common.{◌<◌, ◌≤◌, IsNone, sym, ap, subst, ◌∙◌, arith}
use Rattle.ante_types.specs.Ids.{block_num}
use Rattle.ante_fork.specs.Tree.{branch}
use Rattle.ante_control.specs.Chosen.{play_of}
use Rattle.ante_control.specs.Running.{BranchEnds}
use Rattle.ante_control.specs.Shown.{making}
use Rattle.ante_control.proofs.Idle.{unmade, still_held}
use Rattle.ante_control.proofs.Pushes.{deep_new, entered_holds, took, standing_taken, standing_kept, pushed_taken, pushed_kept, refused_taken}
use Rattle.ante_control.proofs.Standing.{entered_off}
use Rattle.ante_control.proofs.chain.Chain.push_block.Goals as goal

pub take_head-requires-clause-off : goal.take_head-requires-clause-off
take_head-requires-clause-off g c =
    entered_off c.self.inside.tree c.enter.new.tree c.args.block c.in-Ok.id c.self.invariant.0.tree c.in-Ok.ensures.1.fits c.in-Ok.ensures.1.small c.in-Ok.ensures.0 c.in-Ok.ensures.1.tree

pub take_head-requires-clause-deep : goal.take_head-requires-clause-deep
take_head-requires-clause-deep g c =
    let longer : block_num c.enter.new.tree.head < block_num c.in-Ok.id =
    omega (arith, c.if-block_num.false, c.block_num.ensures, c.block_num-2.ensures ∙ ap block_num c.head.ensures.head) in
    deep_new (g.V.Verdicts.judge c.args.verdicts.now) c.args.block c.self.inside.tree c.enter.new.tree c.self.inside.applied.items (g.M.Worlds.chain_id c.self.inside.machine) (g.M.Worlds.stack c.self.inside.machine) (making c.self.inside.receipts.items (g.M.BlockMachine.pending c.self.inside.machine)) (g.M.BlockMachine.counted c.self.inside.machine) c.in-Ok.id c.self.invariant.0 c.in-Ok.ensures.1 c.in-Ok.ensures.0 longer

pub invariant_of-self-2 : goal.invariant_of-self-2
invariant_of-self-2 g c =
    let longer : block_num c.enter.new.tree.head < block_num c.in-Ok.id =
    omega (arith, c.if-block_num.false, c.block_num.ensures, c.block_num-2.ensures ∙ ap block_num c.head.ensures.head) in
    let k =
    took (g.V.Verdicts.judge c.args.verdicts.now) c.args.block c.self.inside.tree c.enter.new.tree c.take_head.new.tree c.self.inside.applied.items c.take_head.new.applied.items (g.M.Worlds.stack c.self.inside.machine) (g.M.Worlds.stack c.take_head.new.machine) c.in-Ok.id c.take_head.result c.in-Ok.ensures.0 c.in-Ok.ensures.1 longer c.take_head.ensures.takes in (
      standing_taken (g.V.Verdicts.judge c.args.verdicts.now) c.args.block c.self.inside.tree c.enter.new.tree c.take_head.new.tree c.self.inside.applied.items c.take_head.new.applied.items (g.M.Worlds.chain_id c.self.inside.machine) (g.M.Worlds.chain_id c.take_head.new.machine) (g.M.Worlds.stack c.self.inside.machine) (g.M.Worlds.stack c.take_head.new.machine) (making c.self.inside.receipts.items (g.M.BlockMachine.pending c.self.inside.machine)) (making c.self.inside.receipts.items (g.M.BlockMachine.pending c.take_head.new.machine)) (g.M.BlockMachine.counted c.self.inside.machine) (g.M.BlockMachine.counted c.take_head.new.machine) c.take_head.result c.self.invariant.0 k,
      still_held c.self.inside.tree c.take_head.new.tree c.self.inside.pending c.self.inside.receipts.items c.self.inside.size (g.M.BlockMachine.pending c.self.inside.machine) (g.M.BlockMachine.pending c.take_head.new.machine)
          (unmade c.self.inside.receipts.items (g.M.BlockMachine.pending c.self.inside.machine) (subst (λ v. IsNone v.pending) (sym c.self.view_is) c.requires.idle)) c.take_head.ensures.idle c.self.invariant.1,
    )

pub returns-clause-pushed : goal.returns-clause-pushed
returns-clause-pushed g c =
    rw (← c.self.view_is, c.answered.ensures) (λ first h.
    let longer : block_num c.enter.new.tree.head < block_num c.in-Ok.id =
    omega (arith, c.if-block_num.false, c.block_num.ensures, c.block_num-2.ensures ∙ ap block_num c.head.ensures.head) in
    let k =
    took (g.V.Verdicts.judge c.args.verdicts.now) c.args.block c.self.inside.tree c.enter.new.tree c.take_head.new.tree c.self.inside.applied.items c.take_head.new.applied.items (g.M.Worlds.stack c.self.inside.machine) (g.M.Worlds.stack c.take_head.new.machine) c.in-Ok.id c.take_head.result c.in-Ok.ensures.0 c.in-Ok.ensures.1 longer c.take_head.ensures.takes in
    let play = play_of g.M.BlockMachine.steps (g.V.Verdicts.judge c.args.verdicts.now) (g.M.Worlds.chain_id c.self.inside.machine) first in
    let on = entered_holds play (g.V.Verdicts.judge c.args.verdicts.now) c.args.block c.self.inside.tree c.enter.new.tree (g.M.Worlds.stack c.self.inside.machine) c.self.invariant.0.tree c.in-Ok.ensures.1 h in
    let ends = subst (λ i. BranchEnds play (branch i c.enter.new.tree.kept) (g.M.Worlds.stack c.take_head.new.machine) c.take_head.result) c.in-Ok.ensures.0 (c.take_head.ensures.tables first on) in
    pushed_taken play c.args.block c.self.inside.tree c.enter.new.tree c.take_head.new.tree c.self.inside.applied.items c.take_head.new.applied.items (g.M.Worlds.chain_id c.self.inside.machine) (g.M.Worlds.chain_id c.take_head.new.machine) (g.M.Worlds.stack c.self.inside.machine) (g.M.Worlds.stack c.take_head.new.machine) (making c.self.inside.receipts.items (g.M.BlockMachine.pending c.self.inside.machine)) (making c.self.inside.receipts.items (g.M.BlockMachine.pending c.take_head.new.machine)) (g.M.BlockMachine.counted c.self.inside.machine) (g.M.BlockMachine.counted c.take_head.new.machine) c.take_head.result c.self.invariant.0.tree c.self.invariant.0.low k h ends)

pub returns-clause-refused : goal.returns-clause-refused
returns-clause-refused g c =
    rw (← c.self.view_is, c.answered.ensures) (
    let longer : block_num c.enter.new.tree.head < block_num c.in-Ok.id =
    omega (arith, c.if-block_num.false, c.block_num.ensures, c.block_num-2.ensures ∙ ap block_num c.head.ensures.head) in
    let k =
    took (g.V.Verdicts.judge c.args.verdicts.now) c.args.block c.self.inside.tree c.enter.new.tree c.take_head.new.tree c.self.inside.applied.items c.take_head.new.applied.items (g.M.Worlds.stack c.self.inside.machine) (g.M.Worlds.stack c.take_head.new.machine) c.in-Ok.id c.take_head.result c.in-Ok.ensures.0 c.in-Ok.ensures.1 longer c.take_head.ensures.takes in
    refused_taken (g.V.Verdicts.judge c.args.verdicts.now) c.args.block c.self.inside.tree c.enter.new.tree c.take_head.new.tree c.self.inside.applied.items c.take_head.new.applied.items (g.M.Worlds.chain_id c.self.inside.machine) (g.M.Worlds.chain_id c.take_head.new.machine) (g.M.Worlds.stack c.self.inside.machine) (g.M.Worlds.stack c.take_head.new.machine) (making c.self.inside.receipts.items (g.M.BlockMachine.pending c.self.inside.machine)) (making c.self.inside.receipts.items (g.M.BlockMachine.pending c.take_head.new.machine)) (g.M.BlockMachine.counted c.self.inside.machine) (g.M.BlockMachine.counted c.take_head.new.machine) c.take_head.result c.self.invariant.0.tree k)

pub invariant_of-self-then-block_num : goal.invariant_of-self-then-block_num
invariant_of-self-then-block_num g c =
    let le : block_num c.in-Ok.id ≤ block_num c.enter.new.tree.head =
    omega (arith, c.if-block_num.true, c.block_num.ensures, c.block_num-2.ensures ∙ ap block_num c.head.ensures.head) in (
      standing_kept (g.V.Verdicts.judge c.args.verdicts.now) c.args.block c.self.inside.tree c.enter.new.tree c.settle.new.tree c.self.inside.applied.items (g.M.Worlds.chain_id c.self.inside.machine) (g.M.Worlds.chain_id c.settle.new.machine) (g.M.Worlds.stack c.self.inside.machine) (g.M.Worlds.stack c.settle.new.machine) (making c.self.inside.receipts.items (g.M.BlockMachine.pending c.self.inside.machine)) (making c.self.inside.receipts.items (g.M.BlockMachine.pending c.settle.new.machine)) (g.M.BlockMachine.counted c.self.inside.machine) (g.M.BlockMachine.counted c.settle.new.machine) c.in-Ok.id c.self.invariant.0 c.in-Ok.ensures.0 c.in-Ok.ensures.1 le c.settle.ensures.tree c.settle.ensures.stack,
      still_held c.self.inside.tree c.settle.new.tree c.self.inside.pending c.self.inside.receipts.items c.self.inside.size (g.M.BlockMachine.pending c.self.inside.machine) (g.M.BlockMachine.pending c.settle.new.machine)
          (unmade c.self.inside.receipts.items (g.M.BlockMachine.pending c.self.inside.machine) (subst (λ v. IsNone v.pending) (sym c.self.view_is) c.requires.idle)) c.settle.ensures.idle c.self.invariant.1,
    )

pub returns-then-block_num-clause-pushed : goal.returns-then-block_num-clause-pushed
returns-then-block_num-clause-pushed g c =
    rw (← c.self.view_is) (λ first h.
    let le : block_num c.in-Ok.id ≤ block_num c.enter.new.tree.head =
    omega (arith, c.if-block_num.true, c.block_num.ensures, c.block_num-2.ensures ∙ ap block_num c.head.ensures.head) in
    let play = play_of g.M.BlockMachine.steps (g.V.Verdicts.judge c.args.verdicts.now) (g.M.Worlds.chain_id c.self.inside.machine) first in
    pushed_kept play c.args.block c.self.inside.tree c.enter.new.tree c.settle.new.tree c.self.inside.applied.items (g.M.Worlds.chain_id c.self.inside.machine) (g.M.Worlds.chain_id c.settle.new.machine) (g.M.Worlds.stack c.self.inside.machine) (g.M.Worlds.stack c.settle.new.machine) (making c.self.inside.receipts.items (g.M.BlockMachine.pending c.self.inside.machine)) (making c.self.inside.receipts.items (g.M.BlockMachine.pending c.settle.new.machine)) (g.M.BlockMachine.counted c.self.inside.machine) (g.M.BlockMachine.counted c.settle.new.machine) c.in-Ok.id c.self.invariant.0 c.in-Ok.ensures.0 c.in-Ok.ensures.1 le c.settle.ensures.tree c.settle.ensures.stack h)
