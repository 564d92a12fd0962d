use Rattle.ante_digest.proofs.Fed.{onto}
use Rattle.ante_digest.proofs.digest.feed_history.Goals as goal

pub returns : goal.returns
returns c = onto (onto (onto c.feed_list.ensures c.feed_list-2.ensures) c.feed_list-3.ensures) c.feed_list-4.ensures
