use Rattle.std.proofs.Common.{◌↔◌, length}
use Rattle.ante_wvalid.specs.Modules.{Twice}
use Rattle.ante_wvalid.proofs.Repeating.{Left, Seen}
use Rattle.ante_wvalid.proofs.repeats.export_twice.Given as goal

abbrev pub invariant-exports : goal.invariant-exports
invariant-exports l = Twice l.fn.exports ↔ Left (Seen l.seen) l.rest

abbrev pub decreases-exports : goal.decreases-exports
decreases-exports l = length l.rest
