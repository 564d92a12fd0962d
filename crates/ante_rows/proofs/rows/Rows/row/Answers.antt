use Rattle.std.proofs.Common.{◌∙◌}
use Rattle.ante_rows.proofs.Neighbours.{found_in}
use Rattle.ante_rows.proofs.rows.Rows.row.Goals as goal

pub returns : goal.returns
returns c = rw (← c.self.view_is, ← c.self-inside.view_is, ← c.self-inside-inside.view_is) (c.get.ensures ∙ found_in c.total_order.ensures c.args.key.now c.args.primary _)
