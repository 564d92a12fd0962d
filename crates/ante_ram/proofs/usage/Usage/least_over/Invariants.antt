use Rattle.std.proofs.Common.{◌≡◌, None}
use Rattle.std.specs.Ordering.{nat_cmp}
use Rattle.ante_undo.specs.Stack.{under_top}
use Rattle.ante_ram.specs.Least.{least_over}
use Rattle.ante_ram.proofs.usage.Usage.least_over.Given as goal

abbrev pub invariant-loop-change : goal.invariant-loop-change
invariant-loop-change l = least_over (λ a b. nat_cmp a.0 b.0) (under_top l.self) l.self.top l.least l.change-iterator ≡ least_over (λ a b. nat_cmp a.0 b.0) (under_top l.self) l.self.top None l.changes
