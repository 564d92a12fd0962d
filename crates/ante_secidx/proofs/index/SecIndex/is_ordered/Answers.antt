use Rattle.ante_secidx.proofs.Neighbours.{rows_ordered}
use Rattle.ante_secidx.proofs.index.SecIndex.is_ordered.Goals as goal

pub returns : goal.returns
returns g c = rows_ordered g.K.Ord.cmp c.total_order.ensures c.args.table c.args.self.now.top c.rows-all.ensures.ordered
