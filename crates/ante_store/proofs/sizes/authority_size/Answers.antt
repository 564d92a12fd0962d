use Rattle.std.proofs.Common.{length, ap, arith}
use Rattle.std.specs.List.{flat_map}
use Rattle.ante_pack.specs.Forms.{varuint}
use Rattle.ante_pack.specs.Packed.{key_weight}
use Rattle.ante_store.proofs.Lengths.{authority_length}
use Rattle.ante_store.proofs.sizes.authority_size.Goals as goal

pub returns-clause-size : goal.returns-clause-size
returns-clause-size c = omega (
  arith,
  authority_length c.args.authority.now,
  c.count_size.ensures.size,
  ap (λ keys. length (varuint.spell (length keys))) c.as_slice-keys.ensures,
  c.keys_size.ensures.size,
  ap (λ keys. length (flat_map key_weight.spell keys)) c.as_slice-keys.ensures,
  c.count_size-2.ensures.size,
  ap (λ n. length (varuint.spell n)) c.len-accounts.ensures,
  c.count_size-3.ensures.size,
  ap (λ n. length (varuint.spell n)) c.len-waits.ensures,
  c.len-accounts.ensures,
  c.len-waits.ensures,
)
