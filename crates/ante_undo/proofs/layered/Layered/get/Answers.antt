use Rattle.std.proofs.Common.{sym, ◌∙◌}
use Rattle.ante_undo.proofs.Live.{find_live}
use Rattle.ante_undo.proofs.layered.Layered.get.Goals as goal

pub returns : goal.returns
returns g c = rw (← c.self.view_is) (c.value_of.ensures ∙ sym (find_live g.K.Ord.cmp g.met.K.Ord.total c.args.key.now c.self.inside.slots.entries c.self.invariant.ordered))
