use Rattle.ante_pack.proofs.Consequences.{one_spelling}
use Rattle.ante_pack.proofs.laws.one_spelling.Goals as goal

pub returns : goal.returns
returns g c = one_spelling g.T.Packed.form g.met.T.Packed.is_codec
