use Rattle.std.proofs.Common.{refl, sym, ap, ◌∙◌}
use Rattle.ante_undo.specs.Logs.{named_in, taken_back}
use Rattle.ante_undo.specs.Slots.{live}
use Rattle.ante_undo.proofs.Moves.{none_released, last_left, back_entry, forgotten, released_again, split_entry, all_released}
use Rattle.ante_undo.proofs.logs.undo_log.Goals as goal

pub loop-change-init : goal.loop-change-init
loop-change-init g c = record { map = refl; released = none_released c.args.slots.now.entries (λ q. named_in g.K.Ord.cmp q c.args.log); ordered = c.requires.ordered }

pub take_back-requires : goal.take_back-requires
take_back-requires g c = record { named = last_left g.met.K.Ord.total c.pop_back.new.self c.in-Some.change c.in-Some.ensures.items c.loop-change.invariant.released (c.requires.named c.in-Some.change.0) }

pub loop-change-preserved : goal.loop-change-preserved
loop-change-preserved g c = record {
  map = back_entry g.met.K.Ord.total c.requires.exact c.loop-change.slots.entries c.take_back.new.slots.entries c.loop-change.invariant.ordered c.take_back.ensures.ordered c.pop_back.new.self c.in-Some.change c.take_back.ensures.slots
      ∙ ap (taken_back g.K.Ord.cmp (live c.loop-change.slots.entries)) (sym c.in-Some.ensures.items) ∙ c.loop-change.invariant.map;
  released = released_again c.loop-change.invariant.released
      (forgotten g.met.K.Ord.total c.requires.exact c.loop-change.slots.entries c.take_back.new.slots.entries c.loop-change.invariant.ordered c.take_back.ensures.ordered c.in-Some.change.0 c.in-Some.change.1 c.take_back.ensures.slots
      (last_left g.met.K.Ord.total c.pop_back.new.self c.in-Some.change c.in-Some.ensures.items c.loop-change.invariant.released (c.requires.named c.in-Some.change.0)))
      (λ q. split_entry g.K.Ord.cmp q c.pop_back.new.self c.in-Some.change c.in-Some.ensures.items);
  ordered = c.take_back.ensures.ordered;
}
