use Rattle.ante_fork.proofs.Branches.{is_newest}
use Rattle.ante_fork.proofs.walks.newest_of.Goals as goal

pub returns : goal.returns
returns c = is_newest _ _ _ c.in_ok-node.ensures.cases.0 c.in_ok-node.ensures.cases.1 c.requires
