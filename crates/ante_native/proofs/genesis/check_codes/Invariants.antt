use Rattle.std.proofs.Common.{◌≡◌, ℕ, List, Bool, length}
use Rattle.ante_execution.specs.Codes.{Accepts}
use Rattle.ante_execution.specs.GenesisRules.{code_fault}
use Rattle.ante_native.proofs.genesis.check_codes.Given as goal

abbrev pub invariant-all : goal.invariant-all
invariant-all l = (accepts : List ℕ → Bool) → Accepts accepts → code_fault accepts l.rest ≡ code_fault accepts l.accounts

abbrev pub decreases-all : goal.decreases-all
decreases-all l = length l.rest
