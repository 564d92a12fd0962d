use Rattle.std.proofs.Common.{◌≡◌, ◌++◌, [], length}
use Rattle.std.specs.Prelude.{reverse}
use Rattle.ante_wrun.proofs.machine.operands.Given as goal

abbrev pub invariant-each : goal.invariant-each
invariant-each l = (l.values.below ≡ []) × (l.values.locals ≡ []) × (reverse l.rest ++ l.values.stack ≡ reverse l.fn.args)

abbrev pub decreases-each : goal.decreases-each
decreases-each l = length l.rest
