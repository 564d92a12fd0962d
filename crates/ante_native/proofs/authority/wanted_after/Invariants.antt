use Rattle.std.proofs.Common.{◌≡◌, ◌-◌, length}
use Rattle.std.specs.List.{sum_by}
use Rattle.ante_native.proofs.authority.wanted_after.Given as goal

abbrev pub invariant-all : goal.invariant-all
invariant-all g l = l.wanted - sum_by g.W.Weighs.counted l.rest ≡ l.threshold - sum_by g.W.Weighs.counted l.weights

abbrev pub decreases-all : goal.decreases-all
decreases-all g l = length l.rest
