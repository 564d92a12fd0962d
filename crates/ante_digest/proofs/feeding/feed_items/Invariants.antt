use Rattle.std.proofs.Common.{take}
use Rattle.std.specs.List.{flat_map}
use Rattle.ante_digest.specs.Feeds.{Feeds}
use Rattle.ante_digest.proofs.feeding.feed_items.Given as goal

abbrev pub invariant-loop-item : goal.invariant-loop-item
invariant-loop-item g l = Feeds l.fn.hasher l.hasher (flat_map g.T.Fed.packed (take l.item-index l.items))
