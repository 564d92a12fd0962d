use Rattle.std.proofs.Common.{take, ◌∷◌}
use Rattle.std.specs.List.{flat_map}
use Rattle.serde_json.specs.Written.{compact_text}
use Rattle.ante_pack.specs.Adds.{Adds}
use Rattle.ante_json_text.proofs.writing.put_later_items.Given as goal

abbrev pub invariant-loop-item : goal.invariant-loop-item
invariant-loop-item g l = Adds l.initial.out l.out (flat_map (λ x. 44 ∷ compact_text (g.T.ToJson.value x)) (take l.item-index l.items))
