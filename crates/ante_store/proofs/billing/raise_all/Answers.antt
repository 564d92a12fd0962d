use Rattle.std.proofs.Common.{ap}
use Rattle.ante_store.proofs.KeyOrders.{names_total, names_exact}
use Rattle.ante_store.proofs.Rebilled.{next_added, next_small, over_top}
use Rattle.ante_store.proofs.billing.raise_all.Goals as goal

pub loop-payer-preserved : goal.loop-payer-preserved
loop-payer-preserved c = (
  next_added names_total names_exact c.args.bills.now c.loop-payer.payer-index _ c.args.usage.now.top c.loop-payer.usage.top c.raise.new.usage.top
      c.loop-payer-test.true c.loop-payer.invariant.0 (ap (λ s. s.top) c.in_ok-raise.ensures.ok),
  over_top _ c.args.usage.now c.loop-payer.usage c.raise.new.usage c.in_ok-raise.ensures.ok c.loop-payer.invariant.1,
  next_small names_total names_exact _ _ c.loop-payer.usage.top c.raise.new.usage.top c.loop-payer.invariant.0.sorted (ap (λ s. s.top) c.in_ok-raise.ensures.ok) c.in_ok-raise.ensures.small,
)
