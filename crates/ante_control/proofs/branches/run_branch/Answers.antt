use Rattle.std.proofs.Common.{◌-◌, drop, refl, subst, ◌∙◌, arith, List, ◌∷◌, Err}
use Rattle.ante_fork.specs.Tree.{branch}
use Rattle.ante_types.specs.declared.chain.Block.{Block}
use Rattle.ante_verdicts.specs.Judge.{Judge}
use Rattle.ante_control.specs.Chosen.{play_of}
use Rattle.ante_control.specs.Tabled.{Holds, worlds}
use Rattle.ante_control.specs.Running.{BranchEnds}
use Rattle.ante_control.proofs.Ways.{rise, is_next, never_none}
use Rattle.ante_control.proofs.Turns.{running_start, running_more, branch_fails, next_off}
use Rattle.ante_control.proofs.branches.run_branch.Goals as goal

pub loop-k-init : goal.loop-k-init
loop-k-init g c = (running_start _ c.args.id.now c.args.tree.now (g.M.Worlds.stack c.args.machine.now), c.requires.idle, refl, omega arith)

pub unreachable-requires : goal.unreachable-requires
unreachable-requires g c = never_none c.args.tree.now c.args.id.now c.loop-k.k c.requires.kept (omega (arith, c.requires.above)) c.in_default.ensures

pub run_next-requires-clause-follows : goal.run_next-requires-clause-follows
run_next-requires-clause-follows g c =
    let n = is_next c.args.tree.now c.args.id.now c.loop-k.k c.in-Some.block.now c.head-head.ensures.sound c.requires.kept (omega (arith, c.requires.above)) c.in-Some.ensures in
    omega (arith, n.num, c.loop-k.invariant.0.grown.revision, c.requires.at)

pub run_next-requires-clause-room : goal.run_next-requires-clause-room
run_next-requires-clause-room g c =
    let n = is_next c.args.tree.now c.args.id.now c.loop-k.k c.in-Some.block.now c.head-head.ensures.sound c.requires.kept (omega (arith, c.requires.above)) c.in-Some.ensures in
    omega (arith, n.small, n.num, c.loop-k.invariant.0.grown.revision, c.requires.at)

pub returns-in-Err-clause-tables : goal.returns-in-Err-clause-tables
returns-in-Err-clause-tables g c = λ first h.
    let judge : Judge = g.V.Verdicts.judge c.args.verdicts.now in
    let n = is_next c.args.tree.now c.args.id.now c.loop-k.k c.in-Some.block.now c.head-head.ensures.sound c.requires.kept (omega (arith, c.requires.above)) c.in-Some.ensures in
    let below : List Block = drop (rise c.args.tree.now c.args.id.now - c.loop-k.k) (branch c.args.id.now c.args.tree.now.kept) in
    let turn =
    subst
    (λ ch. Holds (play_of g.M.BlockMachine.steps judge ch first) below (worlds (g.M.Worlds.stack c.loop-k.machine)) →
    BranchEnds {A = Unit {0}} (play_of g.M.BlockMachine.steps judge ch first) (c.in-Some.block.now ∷ below) (g.M.Worlds.stack c.run_next.new.machine) (Err c.in-Err.refused))
    c.loop-k.invariant.2 (c.in-Err.ensures.tables below first) in
    branch_fails (play_of g.M.BlockMachine.steps judge (g.M.Worlds.chain_id c.args.machine.now) first) c.args.id.now c.args.tree.now c.loop-k.k c.in-Some.block.now (g.M.Worlds.stack c.run_next.new.machine)
    (g.M.Worlds.stack c.run_next.new.machine)
    c.in-Err.refused n (turn (c.loop-k.invariant.0.tables first h))

pub returns-in-Err-clause-off : goal.returns-in-Err-clause-off
returns-in-Err-clause-off g c =
    let n = is_next c.args.tree.now c.args.id.now c.loop-k.k c.in-Some.block.now c.head-head.ensures.sound c.requires.kept (omega (arith, c.requires.above)) c.in-Some.ensures in
    next_off c.args.tree.now c.args.id.now c.loop-k.k c.in-Some.block.now c.in-Err.refused n c.in-Err.ensures.block

pub loop-k-preserved : goal.loop-k-preserved
loop-k-preserved g c =
    let judge : Judge = g.V.Verdicts.judge c.args.verdicts.now in
    let n = is_next c.args.tree.now c.args.id.now c.loop-k.k c.in-Some.block.now c.head-head.ensures.sound c.requires.kept (omega (arith, c.requires.above)) c.in-Some.ensures in
    let turn =
    subst
    (λ ch. (below : List Block) (first : g.row.M-World.Denot) → Holds (play_of g.M.BlockMachine.steps judge ch first) below (worlds (g.M.Worlds.stack c.loop-k.machine)) →
    Holds (play_of g.M.BlockMachine.steps judge ch first) (c.in-Some.block.now ∷ below) (worlds (g.M.Worlds.stack c.run_next.new.machine)))
    c.loop-k.invariant.2 c.in-Ok.ensures.tables in (
      running_more (play_of g.M.BlockMachine.steps judge (g.M.Worlds.chain_id c.args.machine.now)) c.args.id.now c.args.tree.now c.loop-k.k c.in-Some.block.now (g.M.Worlds.stack c.args.machine.now)
          (g.M.Worlds.stack c.loop-k.machine) (g.M.Worlds.stack c.run_next.new.machine) c.loop-k.invariant.0 n c.in-Ok.ensures.ok turn,
      c.run_next.ensures.idle,
      c.run_next.ensures.chain ∙ c.loop-k.invariant.2,
      omega (arith, c.run_next.ensures.count, c.loop-k.invariant.3),
    )
