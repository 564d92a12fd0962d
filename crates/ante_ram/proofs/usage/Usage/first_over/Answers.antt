use Rattle.std.proofs.Common.{◌∙◌}
use Rattle.std.specs.Ordering.{nat_cmp}
use Rattle.ante_undo.specs.Stack.{under_top}
use Rattle.ante_ram.proofs.Sums.{under_seen}
use Rattle.ante_ram.proofs.LeastOver.{least_is}
use Rattle.ante_ram.proofs.usage.Usage.first_over.Goals as goal

pub returns : goal.returns
returns c =
    c.least_over.ensures ∙ least_is (λ a b. nat_cmp a.0 b.0) c.total_order.ensures c.exact_names.ensures (under_top c.args.self.now) c.args.self.now.top
    c.entries_hold.ensures.ordered c.replaced.result.now
    (λ k h. rw (← c.self.view_is, ← c.self-inside.view_is, ← c.self-inside-inside.view_is, under_seen _ _ c.self-inside-inside.invariant) (c.replaced.ensures.unchanged k h))
