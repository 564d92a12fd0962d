use Rattle.std.proofs.Common.{◌≡◌, refl, ap, ◌∙◌, arith}
use Rattle.sha2.specs.Sha256.{sha256}
use Rattle.ante_pack.specs.Names.{number_of, name_number}
use Rattle.ante_types.specs.Chain.{genesis}
use Rattle.ante_types.specs.Ids.{block_num}
use Rattle.ante_types.specs.Genesis.{genesis_header, genesis_head}
use Rattle.ante_store.proofs.genesis.genesis_id.Goals as goal

pub block_id-requires : goal.block_id-requires
unfolding block_num
block_id-requires c = omega arith

pub returns : goal.returns
unfolding genesis_head genesis_header name_number number_of
returns c =
    let root : c.digest.result ≡ sha256 (genesis.spell c.args.genesis.now) = c.digest.ensures ∙ ap sha256 c.requires.packed in
    rw c.block_id.ensures (rw root refl)
