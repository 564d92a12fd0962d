use Rattle.ante_core.proofs.Pieces.{alone_once}
use Rattle.ante_core.proofs.laws.alone_is_one.Goals as goal

pub returns : goal.returns
returns g c = λ world job one other a b. alone_once _ world job one other a b
