use Rattle.std.proofs.Common.{◌≡◌, length}
use Rattle.ante_execution.specs.GenesisRules.{are_distinct}
use Rattle.ante_native.proofs.genesis.are_distinct.Given as goal

abbrev pub invariant-all : goal.invariant-all
invariant-all l = are_distinct l.rest ≡ are_distinct l.names

abbrev pub decreases-all : goal.decreases-all
decreases-all l = length l.rest
