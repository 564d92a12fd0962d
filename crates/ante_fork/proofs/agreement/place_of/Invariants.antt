use Rattle.std.proofs.Common.{◌≡◌, ◌-◌, ◌≤◌, ◌++◌, length, take, drop}
use Rattle.ante_fork.specs.Finality.{insert_down}
use Rattle.ante_fork.proofs.agreement.place_of.Given as goal

abbrev pub invariant-loop-at : goal.invariant-loop-at
invariant-loop-at l = (insert_down l.n l.numbers ≡ take l.at l.numbers ++ insert_down l.n (drop l.at l.numbers)) × (l.at ≤ length l.numbers)

abbrev pub decreases-loop-at : goal.decreases-loop-at
decreases-loop-at l = length l.numbers - l.at
