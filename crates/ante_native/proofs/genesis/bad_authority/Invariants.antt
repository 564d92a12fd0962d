use Rattle.std.proofs.Common.{◌≡◌, length}
use Rattle.std.specs.Prelude.{find}
use Rattle.ante_execution.specs.GenesisRules.{has_bad_authority}
use Rattle.ante_native.proofs.genesis.bad_authority.Given as goal

abbrev pub invariant-all : goal.invariant-all
invariant-all l = find (has_bad_authority l.accounts) l.rest ≡ find (has_bad_authority l.accounts) l.accounts

abbrev pub decreases-all : goal.decreases-all
decreases-all l = length l.rest
