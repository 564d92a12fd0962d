use Rattle.std.proofs.Common.{◌≡◌}
use Rattle.ante_undo.specs.Stack.{with_top}
use Rattle.ante_execution.specs.Blocks.{most_forgotten, without_expired}
use Rattle.ante_transactions.proofs.acts.begin_block.Given as goal

-- what is left is to forget at most as many as may still go
abbrev pub invariant-each : goal.invariant-each
invariant-each l =
    (without_expired most_forgotten l.info.slot l.fn.store.top.recent ≡ without_expired l.more l.info.slot l.store.top.recent)
    × (l.store ≡ with_top (record l.fn.store.top { recent = l.store.top.recent }) l.fn.store)

abbrev pub decreases-each : goal.decreases-each
decreases-each l = l.more
