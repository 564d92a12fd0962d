use Rattle.ante_http.proofs.Fronts.{front-needs}
use Rattle.ante_http.proofs.laws.fronts_need_more.Goals as goal

pub returns : goal.returns
returns c = front-needs
