use Rattle.std.proofs.Common.{◌∙◌, nat_eq}
use Rattle.ante_types.specs.Genesis.{builtin_genesis, eosio}
use Rattle.ante_node.proofs.Walks.{or_no_other}
use Rattle.ante_node.proofs.read_only.is_there.Goals as goal

pub returns : goal.returns
unfolding builtin_genesis
returns c = c.is_system.ensures ∙ or_no_other (nat_eq c.args.name.0 eosio.0)
