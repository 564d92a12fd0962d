use Rattle.std.proofs.Common.{◌∙◌, ap, refl, nat_le}
use Rattle.ante_journal.specs.Desk.{most_open}
use Rattle.ante_driver.specs.Slots.{open_slots}
use Rattle.ante_driver.proofs.accepting.add_slot.Goals as goal

pub returns-clause-ok : goal.returns-clause-ok
returns-clause-ok c = record {
  slot = c.new_slot.result;
  slots = c.in_ok-push.ensures.items;
  held = c.new_slot.ensures.held;
  output = c.new_slot.ensures.output;
  is_open = c.new_slot.ensures.is_open;
  is_last = c.new_slot.ensures.is_last;
  queue = refl;
  turn = refl;
  took = refl;
  journal = c.in_ok-note.ensures.ok;
  crowds = ap (nat_le most_open) (c.open_count-is_crowded.ensures ∙ ap open_slots c.as_slice.ensures.value);
}
