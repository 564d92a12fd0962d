use Rattle.std.proofs.Common.{ap, ◌∙◌}
use Rattle.ante_pack.specs.Forms.{whole}
use Rattle.ante_types.specs.Chain.{transaction}
use Rattle.ante_transactions.proofs.session.run_actions.Goals as goal

pub act-requires-clause-packed : goal.act-requires-clause-packed
act-requires-clause-packed c = (c.args.trx.now, ap (whole transaction) c.in_ok-kept.ensures ∙ c.requires.reads)
