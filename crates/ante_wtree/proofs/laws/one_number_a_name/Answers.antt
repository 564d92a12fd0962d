use Rattle.ante_wtree.proofs.Table.{one_number}
use Rattle.ante_wtree.proofs.laws.one_number_a_name.Goals as goal

pub returns : goal.returns
returns c = one_number
