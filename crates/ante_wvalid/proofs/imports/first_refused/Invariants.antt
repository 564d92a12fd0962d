use Rattle.std.proofs.Common.{ℕ, ◌<◌, ◌-◌, length}
use Rattle.ante_wvalid.specs.OperandStacks.{IsRefused}
use Rattle.ante_wvalid.proofs.imports.first_refused.Given as goal

abbrev pub invariant-imports : goal.invariant-imports
invariant-imports l = (k : ℕ) → k < l.at → IsRefused l.module.types l.rule l.module.imports k → ⊥

abbrev pub decreases-imports : goal.decreases-imports
decreases-imports l = length l.imports - l.at
