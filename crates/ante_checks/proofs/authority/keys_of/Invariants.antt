use Rattle.std.proofs.Common.{◌≡◌, ◌+◌, length}
use Rattle.ante_execution.specs.Transactions.{keys_from}
use Rattle.ante_checks.specs.Keys.{after_keys}
use Rattle.ante_checks.proofs.authority.keys_of.Given as goal

-- with the keys so far before them, the rest gives what all give
abbrev pub invariant-each : goal.invariant-each
invariant-each g l =
    (keys_from (g.V.Verdicts.judge l.verdicts).recovers l.digest 0 l.signatures
    ≡ after_keys l.keys (keys_from (g.V.Verdicts.judge l.verdicts).recovers l.digest l.place l.rest))
    × (l.place + length l.rest ≡ length l.signatures)

abbrev pub decreases-each : goal.decreases-each
decreases-each g l = length l.rest
