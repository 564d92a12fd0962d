use Rattle.std.proofs.Common.{◌≡◌, ◌*◌, ◌≤◌, ◌^◌, length, take}
use Rattle.std.specs.List.{flat_map}
use Rattle.ante_pack.specs.Packed.{key_weight}
use Rattle.ante_store.proofs.sizes.keys_size.Given as goal

abbrev pub invariant-loop-key : goal.invariant-loop-key
invariant-loop-key l = (l.size ≡ length (flat_map key_weight.spell (take l.key-index l.keys))) × (l.size ≤ 2 ^ 66 * l.key-index)
