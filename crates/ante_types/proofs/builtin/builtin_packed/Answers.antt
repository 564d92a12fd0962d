use Rattle.std.proofs.Common.{refl}
use Rattle.ante_pack.specs.Forms.{varuint_bytes, varuint, string}
use Rattle.ante_pack.specs.Packed.{u16, u32, u64, name, key, level, key_weight, level_weight, wait_weight, authority}
use Rattle.ante_pack.specs.Names.{number_of, name_number}
use Rattle.ante_types.specs.Chain.{genesis_account, genesis}
use Rattle.ante_types.specs.Genesis.{builtin_genesis}
use Rattle.ante_types.proofs.builtin.builtin_packed.Goals as goal

pub returns : goal.returns
unfolding varuint_bytes varuint string u16 u32 u64 name key level key_weight level_weight wait_weight authority number_of name_number genesis_account genesis builtin_genesis
returns c = refl
