use Rattle.std.proofs.Common.{◌≡◌, option_map, sym, ap, ◌∙◌, rules}
use Rattle.ante_undo.specs.Stack.{under_top}
use Rattle.ante_execution.specs.Transactions.{memory_refusal}
use Rattle.ante_checks.proofs.Overruns.{exceeded, first_refused_in}
use Rattle.ante_checks.proofs.memory.check_memory.Goals as goal

pub returns-in-Some : goal.returns-in-Some
returns-in-Some c =
    let over : option_map exceeded c.first_over.result ≡ memory_refusal (under_top c.args.store.now) c.args.store.now.top =
    first_refused_in _ c.names_are_ordered.ensures c.total_order.ensures (under_top c.args.store.now) c.args.store.now.top
    (under_top c.usage-usage.result.now) c.usage-usage.result.now.top c.usage-usage.ensures.used_under c.usage-usage.ensures.used c.usage-usage.ensures.quotas
    c.entries_hold.ensures.ordered c.first_over.result c.first_over.ensures in
    (search rules) ∙ over

pub returns-in-None : goal.returns-in-None
returns-in-None c =
    ap (option_map exceeded) (sym c.in-None.is) ∙ first_refused_in _ c.names_are_ordered.ensures c.total_order.ensures (under_top c.args.store.now) c.args.store.now.top
    (under_top c.usage-usage.result.now) c.usage-usage.result.now.top c.usage-usage.ensures.used_under c.usage-usage.ensures.used c.usage-usage.ensures.quotas
    c.entries_hold.ensures.ordered c.first_over.result c.first_over.ensures
