use Rattle.std.proofs.Common.{take}
use Rattle.json.specs.Print.{escape}
use Rattle.ante_pack.specs.Adds.{Adds}
use Rattle.ante_json_text.proofs.escape.put_each.Given as goal

abbrev pub invariant-loop-byte : goal.invariant-loop-byte
invariant-loop-byte l = Adds l.initial.out l.out (escape (take l.byte-index l.text))
