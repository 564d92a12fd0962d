use Rattle.ante_control.proofs.Starting.{is_started, root_standing, root_held}
use Rattle.ante_control.proofs.chain.Chain.new.Goals as goal

pub invariant_of-result : goal.invariant_of-result
invariant_of-result g c = (
  root_standing c.args.genesis.now c.in_ok-tree.tree _ _ (g.M.Worlds.stack c.args.machine) _ _ c.in_ok-tree.ensures c.requires.alone c.requires.some c.requires.few,
  root_held c.in_ok-tree.tree c.new-2.result.items (g.M.BlockMachine.pending c.args.machine) c.new-2.ensures.items c.requires.idle,
)

pub returns-clause-choice : goal.returns-clause-choice
returns-clause-choice g c =
    is_started c.args.genesis.now c.in_ok-tree.tree c.new-applied.result.items c.enlist.new.applied.items c.genesis_head-head.result c.in_ok-tree.ensures c.new-applied.ensures.items c.in_ok-enlist.ensures.ok c.genesis_head-head.ensures
