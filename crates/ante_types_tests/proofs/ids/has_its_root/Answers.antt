use Rattle.ante_types.specs.Chain.{block}
use Rattle.ante_types_tests.proofs.ids.has_its_root.Goals as goal

pub trx_root-requires : goal.trx_root-requires
unfolding block
trx_root-requires c = c.in_ok-block.ensures.found.fits.1.1
