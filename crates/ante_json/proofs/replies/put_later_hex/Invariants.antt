use Rattle.std.proofs.Common.{take, ◌∷◌}
use Rattle.std.specs.List.{flat_map}
use Rattle.serde_json.specs.Written.{compact_text}
use Rattle.ante_pack.specs.Adds.{Adds}
use Rattle.ante_json_text.specs.Values.{hex_value}
use Rattle.ante_json.proofs.replies.put_later_hex.Given as goal

abbrev pub invariant-loop-row : goal.invariant-loop-row
invariant-loop-row l = Adds l.initial.out l.out (flat_map (λ x. 44 ∷ compact_text (hex_value x)) (take l.row-index l.rows))
