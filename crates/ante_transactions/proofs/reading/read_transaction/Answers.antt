use Rattle.std.proofs.Common.{sym, ◌∙◌}
use Rattle.ante_accepts.specs.Accepting.{chain_codes}
use Rattle.ante_apply.proofs.Stops.{reaches_none}
use Rattle.ante_transactions.proofs.Readings.{answered, no_looks, refused_trace, refusal_is}
use Rattle.ante_transactions.proofs.reading.read_transaction.Goals as goal

pub returns-in-Some-clause-reads : goal.returns-in-Some-clause-reads
returns-in-Some-clause-reads g c =
    answered g.P.Stop.may c.args.stop.now c.args.stop.now _ c.trace_with.result
    (c.trace_with.ensures ∙ sym (refused_trace chain_codes c.args.store.now.top c.args.position c.args.head c.args.slot c.args.job.now.trx c.args.job.now.packed c.as_slice-packed.result.now c.new-traces.result c.in-Some.failure
    (c.as_slice-packed.ensures ∙ c.packed.ensures) c.new-traces.ensures
    (refusal_is chain_codes c.args.store.now.top c.args.position c.args.head c.args.slot c.args.job.now.trx c.args.job.now.packed c.trx.result.now c.as_slice-packed.result.now c.trx.ensures.trx (c.as_slice-packed.ensures ∙ c.packed.ensures) c.in_ok-failure.field-0 c.in-Some.failure
    c.in_ok-failure.ensures c.in-Some.is)))
    (reaches_none g.P.Stop.may c.args.stop.now)

pub returns-in-Some-clause-count : goal.returns-in-Some-clause-count
returns-in-Some-clause-count g c =
    let refusal = refusal_is chain_codes c.args.store.now.top c.args.position c.args.head c.args.slot c.args.job.now.trx c.args.job.now.packed c.trx.result.now c.as_slice-packed.result.now c.trx.ensures.trx (c.as_slice-packed.ensures ∙ c.packed.ensures)
    c.in_ok-failure.field-0 c.in-Some.failure c.in_ok-failure.ensures c.in-Some.is in (
      c.trace_with.ensures ∙ sym (refused_trace chain_codes c.args.store.now.top c.args.position c.args.head c.args.slot c.args.job.now.trx c.args.job.now.packed c.as_slice-packed.result.now c.new-traces.result c.in-Some.failure
          (c.as_slice-packed.ensures ∙ c.packed.ensures) c.new-traces.ensures refusal),
      no_looks chain_codes c.args.store.now.top c.args.position c.args.head c.args.slot c.args.job.now.trx c.args.job.now.packed c.in-Some.failure refusal (g.P.Stop.looks c.args.stop.now),
    )
