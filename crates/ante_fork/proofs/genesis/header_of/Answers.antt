use Rattle.std.proofs.Common.{◌≡◌, refl, ap, ◌∙◌}
use Rattle.sha2.specs.Sha256.{sha256}
use Rattle.ante_pack.specs.Names.{number_of, name_number}
use Rattle.ante_types.specs.Chain.{genesis}
use Rattle.ante_types.specs.Genesis.{genesis_header}
use Rattle.ante_fork.proofs.genesis.header_of.Goals as goal

pub returns : goal.returns
unfolding genesis_header name_number number_of
returns c =
    let root : c.digest.result ≡ sha256 (genesis.spell c.args.genesis.now) = c.digest.ensures ∙ ap sha256 c.requires.packed in
    rw root refl
