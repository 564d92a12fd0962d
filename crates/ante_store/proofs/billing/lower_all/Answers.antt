use Rattle.std.proofs.Common.{ap}
use Rattle.ante_store.proofs.KeyOrders.{names_total, names_exact}
use Rattle.ante_store.proofs.Rebilled.{next_fits, next_removed, over_top}
use Rattle.ante_store.proofs.billing.lower_all.Goals as goal

pub lower-requires-clause-fits : goal.lower-requires-clause-fits
lower-requires-clause-fits c =
    next_fits c.args.bills.now c.loop-payer.payer-index _ c.args.usage.now.top c.loop-payer.usage.top c.loop-payer-test.true c.requires.within c.loop-payer.invariant.0 c.requires.small

pub loop-payer-preserved : goal.loop-payer-preserved
loop-payer-preserved c = (
  next_removed names_total names_exact c.args.bills.now c.loop-payer.payer-index _ c.args.usage.now.top c.loop-payer.usage.top c.lower.new.usage.top
      c.loop-payer-test.true c.requires.within c.loop-payer.invariant.0 (ap (λ s. s.top) c.in_ok-lower.ensures.ok),
  over_top _ c.args.usage.now c.loop-payer.usage c.lower.new.usage c.in_ok-lower.ensures.ok c.loop-payer.invariant.1,
)
