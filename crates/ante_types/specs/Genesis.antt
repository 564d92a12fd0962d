-- Genesis as block 1, and the genesis that is built in.
use Rattle.std.specs.Prelude.{[], ◌∷◌, codes, replicate}
use Rattle.sha2.specs.Sha256.{sha256}
use Rattle.ante_pack.specs.declared.names.Name.{Name}
use Rattle.ante_pack.specs.declared.authority.Authority.{Authority}
use Rattle.ante_pack.specs.Names.{name_number}
use Rattle.ante_types.specs.declared.chain.Header.{Header}
use Rattle.ante_types.specs.declared.chain.Head.{Head}
use Rattle.ante_types.specs.declared.chain.Genesis.{Genesis}
use Rattle.ante_types.specs.Chain.{genesis}
use Rattle.ante_types.specs.Ids.{block_id}

-- the account of the system
abbrev pub eosio : Name
eosio = record { 0 = name_number (codes "eosio") }

-- Its predecessor's id is 32 zero bytes, and its root is the digest of the packed genesis, which is also the chain id.
unfoldable pub genesis_header : Genesis → Header
genesis_header g = record { slot = g.slot; producer = eosio; previous = replicate 32 0; trx_root = sha256 (genesis.spell g) }

unfoldable pub genesis_head : Genesis → Head
genesis_head g = record { num = 1; id = block_id (genesis_header g) }

-- threshold 1, and one key at weight 1: kind 0, a byte 2, and 32 zero bytes
abbrev pub builtin_authority : Authority
builtin_authority = record { threshold = 1; keys = record { key = 0 ∷ 2 ∷ replicate 32 0; weight = 1 } ∷ []; accounts = []; waits = [] }

-- one producer and one account, both the system's, with no code
unfoldable pub builtin_genesis : Genesis
builtin_genesis = record {
  version = 1;
  slot = 0;
  producers = eosio ∷ [];
  accounts = record { name = eosio; owner = builtin_authority; active = builtin_authority; code = [] } ∷ [];
}
