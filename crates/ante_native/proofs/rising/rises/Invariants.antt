use Rattle.std.proofs.Common.{◌≡◌, ◌∷◌, length}
use Rattle.ante_execution.specs.Native.Rules.{rises}
use Rattle.ante_native.proofs.rising.rises.Given as goal

abbrev pub invariant-all : goal.invariant-all
invariant-all g l = rises g.R.Rising.order (l.last ∷ l.rest) ≡ rises g.R.Rising.order l.items

abbrev pub decreases-all : goal.decreases-all
decreases-all g l = length l.rest
