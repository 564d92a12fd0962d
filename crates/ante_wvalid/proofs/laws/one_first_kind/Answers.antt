use Rattle.ante_wvalid.proofs.Order.{one_first}
use Rattle.ante_wvalid.proofs.laws.one_first_kind.Goals as goal

pub returns : goal.returns
returns c = one_first
