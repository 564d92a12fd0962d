use Rattle.std.proofs.Common.{arith}
use Rattle.ante_undo.proofs.Moves.{no_session_moved, sessions_moved_again, moved_named}
use Rattle.ante_undo.proofs.logs.move_sessions.Goals as goal

pub loop-init : goal.loop-init
loop-init g c = record { moved = no_session_moved c.args.slots.now.entries c.args.from.now c.args.to.now; ordered = c.requires.ordered; left = omega arith }

pub move_session-requires-clause-ordered : goal.move_session-requires-clause-ordered
move_session-requires-clause-ordered g c = c.loop.invariant.ordered

pub move_session-requires-clause-some : goal.move_session-requires-clause-some
move_session-requires-clause-some g c = let left = c.loop.invariant.left in let within = c.requires.within in omega arith

pub move_session-requires-clause-named : goal.move_session-requires-clause-named
move_session-requires-clause-named g c q = let named = moved_named c.loop.invariant.moved c.requires.named q in omega arith

pub move_session-requires-clause-room : goal.move_session-requires-clause-room
move_session-requires-clause-room g c = let lengths = c.loop.invariant.moved.lengths in let room = c.requires.room in omega arith

pub loop-preserved : goal.loop-preserved
loop-preserved g c = record {
  moved = sessions_moved_again c.loop.invariant.moved c.move_session.ensures.moved;
  ordered = c.move_session.ensures.ordered;
  left = let left = c.loop.invariant.left in let less = c.move_session.ensures.length in omega arith;
}
