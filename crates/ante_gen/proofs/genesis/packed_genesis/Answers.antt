use Rattle.std.proofs.Common.{refl}
use Rattle.ante_pack.specs.Forms.{varuint_bytes, varuint, string}
use Rattle.ante_pack.specs.Packed.{u16, u32, u64, name, key, level, key_weight, level_weight, wait_weight, authority}
use Rattle.ante_pack.specs.Names.{number_of, name_number}
use Rattle.ante_types.specs.Chain.{genesis_account, genesis}
use Rattle.ante_gen.specs.Workload.{ledger_genesis}
use Rattle.ante_gen.proofs.genesis.packed_genesis.Goals as goal

pub returns : goal.returns
unfolding varuint_bytes varuint string u16 u32 u64 name key level key_weight level_weight wait_weight authority number_of name_number genesis_account genesis ledger_genesis
returns c = refl
