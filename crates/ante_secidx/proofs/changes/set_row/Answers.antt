use Rattle.ante_secidx.proofs.Hinted.{second_set}
use Rattle.ante_secidx.proofs.changes.set_row.Goals as goal

pub returns-clause-ok : goal.returns-clause-ok
returns-clause-ok g c = rw (← c.parts.view_is) (second_set c.set_entry.result c.parts.inside.first c.parts.inside.second c.set_entry.new.map _ c.set_entry.ensures.ok)
