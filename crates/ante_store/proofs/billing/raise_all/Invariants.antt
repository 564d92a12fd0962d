use Rattle.std.proofs.Common.{◌≡◌, ◌≤◌, [], take}
use Rattle.ante_state.specs.Billing.{most_usage}
use Rattle.ante_undo.specs.Stack.{with_top}
use Rattle.ante_ram.specs.Usage.{usage_sum}
use Rattle.ante_store.specs.Bills.{IsRebilled}
use Rattle.ante_store.proofs.billing.raise_all.Given as goal

abbrev pub invariant-loop-payer : goal.invariant-loop-payer
invariant-loop-payer l =
    IsRebilled [] (take l.payer-index l.bills) l.initial.usage.top l.usage.top
    × (l.usage ≡ with_top l.usage.top l.initial.usage)
    × (usage_sum l.usage.top ≤ most_usage)
