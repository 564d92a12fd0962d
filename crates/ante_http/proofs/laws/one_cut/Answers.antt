use Rattle.ante_http.proofs.OneCut.{only_one}
use Rattle.ante_http.proofs.laws.one_cut.Goals as goal

pub returns : goal.returns
returns c = only_one
