use Rattle.std.proofs.Common.{sym, ◌∙◌}
use Rattle.ante_driver.proofs.slots.is_idle.Goals as goal

pub returns : goal.returns
returns c = λ t. record { slot = c.slot_at-slot.result.now; there = c.slot_at-slot.ensures; is_open = c.if-not-slot.false; goes_on = c.if-slot.false; free = sym c.waits.ensures ∙ c.if-waits.false }
