use Rattle.ante_secidx.proofs.Hinted.{first_set}
use Rattle.ante_secidx.proofs.changes.set_hint.Goals as goal

pub returns-clause-ok : goal.returns-clause-ok
returns-clause-ok g c = rw (← c.parts.view_is) (first_set c.set_entry.result c.parts.inside.first c.set_entry.new.map c.parts.inside.second _ c.set_entry.ensures.ok)
