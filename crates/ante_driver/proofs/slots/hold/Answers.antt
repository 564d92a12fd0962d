use Rattle.std.proofs.Common.{refl}
use Rattle.ante_driver.proofs.OneSlot.{held_is}
use Rattle.ante_driver.proofs.slots.hold.Goals as goal

pub returns : goal.returns
returns c = held_is c.extend_from_slice.result c.args.slots.now.items c.args.at c.index_mut-slot.result.now (record { held = c.extend_from_slice.new.self; output = c.index_mut-slot.result.now.output; is_open = c.index_mut-slot.result.now.is_open; is_last = c.index_mut-slot.result.now.is_last }) c.args.bytes.now c.requires c.index_mut-slot.ensures.value c.extend_from_slice.ensures.items refl refl refl
