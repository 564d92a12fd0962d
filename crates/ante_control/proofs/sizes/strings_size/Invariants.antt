use Rattle.std.proofs.Common.{◌≡◌, ◌*◌, ◌≤◌, ◌^◌, length, take}
use Rattle.std.specs.List.{flat_map}
use Rattle.ante_pack.specs.Forms.{string}
use Rattle.ante_control.proofs.sizes.strings_size.Given as goal

abbrev pub invariant-loop-text : goal.invariant-loop-text
invariant-loop-text l = (l.size ≡ length (flat_map string.spell (take l.text-index l.texts))) × (l.size ≤ 2 ^ 65 * l.text-index)
