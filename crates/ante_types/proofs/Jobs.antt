-- How many actions a packed transaction can have.
use Rattle.std.proofs.Common.{ℕ, ◌<◌, ◌^◌, List, length}
use Rattle.ante_pack.specs.Forms.{Packs}
use Rattle.ante_types.specs.declared.chain.Transaction.{Transaction}
use Rattle.ante_types.specs.Chain.{transaction}

pub few_actions : (trx : Transaction) (packed : List ℕ) → Packs transaction trx packed → length trx.actions < 2 ^ 32
unfolding transaction
few_actions trx packed p = p.fits.1.1.1.1.1.1.1.0.0
