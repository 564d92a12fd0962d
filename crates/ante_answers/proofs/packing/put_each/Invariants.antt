use Rattle.std.proofs.Common.{take}
use Rattle.std.specs.List.{flat_map}
use Rattle.ante_pack.specs.Adds.{Adds}
use Rattle.ante_answers.proofs.packing.put_each.Given as goal

abbrev pub invariant-loop-item : goal.invariant-loop-item
invariant-loop-item g l = Adds l.fn.writer l.writer (flat_map g.T.Spelled.form.spell (take l.item-index l.items))
