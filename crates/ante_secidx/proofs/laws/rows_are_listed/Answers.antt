use Rattle.ante_secidx.proofs.Listed.{row_listed}
use Rattle.ante_secidx.proofs.laws.rows_are_listed.Goals as goal

pub returns : goal.returns
returns g c = λ table primary m. row_listed table primary m
