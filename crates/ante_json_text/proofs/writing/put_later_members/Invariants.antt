use Rattle.std.proofs.Common.{take, ◌∷◌}
use Rattle.std.specs.List.{flat_map}
use Rattle.ante_pack.specs.Adds.{Adds}
use Rattle.ante_json_text.specs.Values.{pair_of, member_text}
use Rattle.ante_json_text.proofs.writing.put_later_members.Given as goal

abbrev pub invariant-loop-member : goal.invariant-loop-member
invariant-loop-member l = Adds l.initial.out l.out (flat_map (λ m. 44 ∷ member_text (pair_of m)) (take l.member-index l.members))
