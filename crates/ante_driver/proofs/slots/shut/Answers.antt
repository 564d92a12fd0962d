use Rattle.std.proofs.Common.{refl}
use Rattle.ante_driver.specs.Slots.{Shuts}
use Rattle.ante_driver.proofs.Places.{changes}
use Rattle.ante_driver.proofs.slots.shut.Goals as goal

pub returns : goal.returns
returns c = changes c.args.at c.args.slots.now.items _ c.index_mut-slot.result.now _ Shuts c.requires c.index_mut-slot.ensures.value refl (record { held = refl; output = refl; is_open = refl; is_last = refl })
