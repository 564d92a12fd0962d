use Rattle.std.proofs.Common.{[]}
use Rattle.ante_digest.proofs.Fed.{onto}
use Rattle.ante_digest.proofs.digest.digest_of_parts.Goals as goal

pub returns : goal.returns
returns c = c.finalize.ensures _ ((onto (onto c.feed_holders.ensures c.feed_history.ensures) c.feed_indexes.ensures).is [] c.new-hasher.ensures)
