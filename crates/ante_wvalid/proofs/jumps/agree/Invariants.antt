use Rattle.std.proofs.Common.{◌≡◌, ◌↔◌, Some, slice_get, length, All}
use Rattle.ante_wvalid.proofs.jumps.agree.Given as goal

abbrev pub invariant-targets : goal.invariant-targets
invariant-targets l = All (λ k. slice_get l.labels k ≡ Some l.label) l.fn.targets ↔ All (λ k. slice_get l.labels k ≡ Some l.label) l.rest

abbrev pub decreases-targets : goal.decreases-targets
decreases-targets l = length l.rest
