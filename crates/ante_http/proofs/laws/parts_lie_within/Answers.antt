use Rattle.ante_http.proofs.Parts.{parts}
use Rattle.ante_http.proofs.laws.parts_lie_within.Goals as goal

pub returns : goal.returns
returns c = parts
