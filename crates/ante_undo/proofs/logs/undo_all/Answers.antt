use Rattle.std.proofs.Common.{◌∙◌}
use Rattle.ante_undo.specs.Slots.{live}
use Rattle.ante_undo.proofs.Moves.{left_named, last_named, back_last, split_last, released_again}
use Rattle.ante_undo.proofs.logs.undo_all.Goals as goal

pub undo_log-requires-clause-named : goal.undo_log-requires-clause-named
undo_log-requires-clause-named g c q = last_named g.K.Ord.cmp c.loop-log.slots.entries c.pop_back.new.self c.in-Some.log c.in-Some.ensures.items q (left_named c.loop-log.invariant.released q (c.requires.named q))

pub loop-log-preserved : goal.loop-log-preserved
loop-log-preserved g c = record {
  map = back_last g.K.Ord.cmp (live c.loop-log.slots.entries) c.pop_back.new.self c.in-Some.log c.in-Some.ensures.items c.undo_log.ensures.map ∙ c.loop-log.invariant.map;
  released = released_again c.loop-log.invariant.released c.undo_log.ensures.released (λ q. split_last g.K.Ord.cmp q c.pop_back.new.self c.in-Some.log c.in-Some.ensures.items);
  ordered = c.undo_log.ensures.ordered;
}
