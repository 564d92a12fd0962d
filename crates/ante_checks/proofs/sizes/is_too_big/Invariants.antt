use Rattle.std.proofs.Common.{◌≡◌, ◌+◌, ◌<◌, ◌^◌, length}
use Rattle.std.specs.List.{flat_map}
use Rattle.ante_execution.specs.Transactions.{packed_size}
use Rattle.ante_pack.specs.Forms.{string}
use Rattle.ante_checks.proofs.sizes.is_too_big.Given as goal

abbrev pub invariant-each : goal.invariant-each
invariant-each l = (l.size + length (flat_map string.spell l.rest) ≡ packed_size l.packed l.signatures) × (l.size < 2 ^ 65)

abbrev pub decreases-each : goal.decreases-each
decreases-each l = length l.rest
