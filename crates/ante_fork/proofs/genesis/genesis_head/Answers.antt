use Rattle.std.proofs.Common.{refl, arith}
use Rattle.ante_types.specs.Ids.{block_num}
use Rattle.ante_types.specs.Genesis.{genesis_header, genesis_head}
use Rattle.ante_fork.proofs.genesis.genesis_head.Goals as goal

pub block_id-requires : goal.block_id-requires
unfolding block_num genesis_header
block_id-requires c = rw c.header_of-header.ensures (omega arith)

pub returns : goal.returns
unfolding genesis_head
returns c = rw (c.block_id.ensures, c.header_of-header.ensures) refl
