use Rattle.ante_node.proofs.Endings.{run_answered}
use Rattle.ante_node.proofs.node.run_node.Goals as goal

pub returns-clause-answered : goal.returns-clause-answered
returns-clause-answered g c = λ well. (c.run_offline-end.ensures.ended well, run_answered _ _ _ _ _ _ c.run_offline-end.ensures.written well)
