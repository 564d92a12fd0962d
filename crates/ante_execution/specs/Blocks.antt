-- Blocks: what the first and the last act of one make of the state. What its transactions make of it between is said over any engine.
use Rattle.std.specs.Prelude.{ℕ, zero, suc, ◌%◌, List, [], ◌∷◌, if◌then◌else◌}
use Rattle.ante_state.specs.declared.objects.RecentKey.{RecentKey}
use Rattle.ante_types.specs.declared.chain.BlockInfo.{BlockInfo}
use Rattle.ante_types.specs.World.{World}
use Rattle.ante_store.specs.declared.change.Change.TheVariants as change
use Rattle.ante_store.specs.Changes.{after}
use Rattle.ante_execution.specs.Transactions.{is_expired}

-- ---- the first act: transactions that are expired at the block's slot are forgotten, a few for each block, the earliest first

abbrev pub most_forgotten : ℕ
most_forgotten = 64

abbrev pub without_expired : (most slot : ℕ) → List (RecentKey × Unit {0}) → List (RecentKey × Unit {0})
without_expired zero slot recent = recent
without_expired (suc most) slot [] = []
without_expired (suc most) slot (e ∷ es) = if is_expired e.0.expiration slot then without_expired most slot es else e ∷ es

abbrev pub begin_block : BlockInfo → World → World
begin_block info w = record w { recent = without_expired most_forgotten info.slot w.recent }

-- ---- the last act: the block becomes the reference of its number

abbrev pub finish_block : (num : ℕ) → (id : List ℕ) → World → World
finish_block num id w = after (change.SetReference (num % 65536) id) w
