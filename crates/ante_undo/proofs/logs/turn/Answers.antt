use Rattle.std.proofs.Common.{[], sym, subst, arith}
use Rattle.ante_undo.specs.Logs.{IsMoved}
use Rattle.ante_undo.proofs.Moves.{nothing_moved, moved_again, all_moved, nothing_left}
use Rattle.ante_undo.proofs.logs.turn.Goals as goal

pub loop-init : goal.loop-init
loop-init g c = record {
  moved = subst (λ t. IsMoved g.K.Ord.cmp c.args.slots.now.entries c.args.log.now [] c.args.slots.now.entries c.args.log.now t) (sym c.new-turned.ensures) (nothing_moved c.args.slots.now.entries c.args.log.now []);
  ordered = c.requires.ordered;
  left = omega arith;
}

pub move_entry-requires-clause-ordered : goal.move_entry-requires-clause-ordered
move_entry-requires-clause-ordered g c = c.loop.invariant.ordered

pub move_entry-requires-clause-some : goal.move_entry-requires-clause-some
move_entry-requires-clause-some g c = let left = c.loop.invariant.left in omega arith

pub move_entry-requires-clause-named : goal.move_entry-requires-clause-named
move_entry-requires-clause-named g c q =
    let named = c.loop.invariant.moved.named q in
    let mentions = c.loop.invariant.moved.stays.mentions q in
    let within = c.requires.named q in
    omega arith

pub move_entry-requires-clause-room : goal.move_entry-requires-clause-room
move_entry-requires-clause-room g c =
    let lengths = c.loop.invariant.moved.lengths in
    let fits = c.len-end.ensures.fits in
    omega arith

pub loop-preserved : goal.loop-preserved
loop-preserved g c = record {
  moved = moved_again c.loop.invariant.moved c.move_entry.ensures.moved;
  ordered = c.move_entry.ensures.ordered;
  left = let left = c.loop.invariant.left in omega arith;
}

pub returns-clause-turned : goal.returns-clause-turned
returns-clause-turned g c = all_moved (let left = c.loop.invariant.left in nothing_left c.loop.log (omega arith)) c.loop.invariant.moved

pub returns-clause-ordered : goal.returns-clause-ordered
returns-clause-ordered g c = c.loop.invariant.ordered
