use Rattle.std.proofs.Common.{refl, true}
use Rattle.ante_driver.proofs.OneSlot.{said_last_is}
use Rattle.ante_driver.proofs.slots.say_last.Goals as goal

pub returns : goal.returns
returns c = said_last_is c.extend_from_slice.result c.args.slots.now.items c.args.at c.index_mut-slot.result.now (record { held = c.index_mut-slot.result.now.held; output = c.extend_from_slice.new.self; is_open = c.index_mut-slot.result.now.is_open; is_last = true }) c.args.reply.now c.requires c.index_mut-slot.ensures.value c.extend_from_slice.ensures.items refl refl refl
