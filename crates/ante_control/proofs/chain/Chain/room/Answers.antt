use Rattle.ante_control.proofs.Making.{held_small}
use Rattle.ante_control.proofs.chain.Chain.room.Goals as goal

pub has_room-requires-clause-small : goal.has_room-requires-clause-small
has_room-requires-clause-small g c = held_small _ _ _ _ _ c.self.invariant.1
