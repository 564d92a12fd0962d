use Rattle.std.proofs.Common.{ap, sym, ◌∙◌}
use Rattle.ante_store.specs.Changes.{after}
use Rattle.ante_execution.specs.Blocks.{without_expired}
use Rattle.ante_transactions.proofs.Recents.{forgotten_in}
use Rattle.ante_transactions.proofs.acts.forget_first.Goals as goal

pub returns-clause-recent : goal.returns-clause-recent
returns-clause-recent c = λ most.
    let gone = ap (λ s. s.top.recent) c.in_ok-change.ensures.ok ∙ ap (λ change. (after change c.args.store.now.top).recent) c.without_recent.ensures in
    forgotten_in _ c.recent_are_ordered.ensures c.total_order.ensures c.args.slot c.objects.result.now.top.recent c.args.store.now.top.recent c.objects.ensures.recent
    c.in-Some.first c.in-Some.ensures.next c.in-Some.ensures.ordered c.is_expired.result c.is_expired.ensures c.if-not-is_expired.false most
    ∙ ap (without_expired most c.args.slot) (sym gone)
