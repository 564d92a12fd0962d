use Rattle.std.proofs.Common.{◌≡◌, Some, take}
use Rattle.std.specs.Prelude.{fold}
use Rattle.ante_json.specs.Kinds.{with_digit}
use Rattle.ante_json.proofs.kinds.decimal_number.Given as goal

abbrev pub invariant-loop-byte : goal.invariant-loop-byte
invariant-loop-byte l = l.value ≡ fold with_digit (Some 0) (take l.byte-index l.text)
