use Rattle.ante_pack.proofs.Consequences.{one_spelling}
use Rattle.ante_pack.specs.RepeatedCodecs.{IsCodec-varuint, IsCodec-key}
use Rattle.ante_pack.proofs.laws.fields_have_one_spelling.Goals as goal

pub returns : goal.returns
returns c = record { varuint = one_spelling _ IsCodec-varuint; key = one_spelling _ IsCodec-key }
