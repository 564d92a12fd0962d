use Rattle.std.proofs.Common.{arith}
use Rattle.ante_pack.proofs.Consequences.{reads_whole}
use Rattle.ante_pack.proofs.packed.read_whole.Goals as goal

pub returns : goal.returns
returns g c = reads_whole g.T.Packed.form g.met.T.Packed.is_codec c.args.packed.now c.read_to_end.result (λ i. omega (arith, c.type_inv.packed i)) c.read_to_end.ensures
