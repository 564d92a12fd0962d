use Rattle.std.proofs.Common.{◌≡◌, ◌+◌, ◌≤◌, length}
use Rattle.ante_wvalues.proofs.Masks.{masked_from}
use Rattle.ante_wvalues.proofs.values.mask_from.Given as goal

abbrev pub invariant-kinds : goal.invariant-kinds
invariant-kinds l =
    (masked_from l.fn.values.items l.fn.first l.fn.kinds ≡ masked_from l.values.items l.at l.kind) × (l.at + length l.kind ≤ length l.values.items) × (length l.values.items ≡ length l.fn.values.items)

abbrev pub decreases-kinds : goal.decreases-kinds
decreases-kinds l = length l.kind
