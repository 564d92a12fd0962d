use Rattle.std.proofs.Common.{ℕ, ◌<◌, ◌-◌}
use Rattle.ante_wtree.specs.Trees.{tree_of}
use Rattle.ante_wvalid.specs.Modules.{IsUntyped}
use Rattle.ante_wvalid.proofs.functions.first_untyped.Given as goal

abbrev pub invariant-functions : goal.invariant-functions
invariant-functions l = (k : ℕ) → k < l.at → IsUntyped (tree_of l.module) k → ⊥

abbrev pub decreases-functions : goal.decreases-functions
decreases-functions l = l.count - l.at
