use Rattle.std.proofs.Common.{◌≡◌, ◌+◌, ◌≤◌, drop}
use Rattle.ante_driver.specs.Slots.{open_slots}
use Rattle.ante_driver.proofs.slots.open_count.Given as goal

abbrev pub invariant-loop-slot : goal.invariant-loop-slot
invariant-loop-slot l = (l.count + open_slots (drop l.slot-index l.slots) ≡ open_slots l.slots) × (l.count ≤ l.slot-index)
