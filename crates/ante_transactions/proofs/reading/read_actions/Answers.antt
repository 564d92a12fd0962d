use Rattle.std.proofs.Common.{None, Some, Err, ap, subst, sym, ◌∙◌}
use Rattle.ante_accepts.specs.Accepting.{accepts, chain_codes}
use Rattle.ante_accepts.proofs.Accepted.{accepted}
use Rattle.ante_execution.specs.Transactions.{read_only}
use Rattle.ante_pack.specs.Forms.{Packs}
use Rattle.ante_types.specs.Chain.{transaction}
use Rattle.ante_transactions.proofs.Jobs.{is_packed}
use Rattle.ante_transactions.proofs.Readings.{answered, cut, done_count, done_trace, failed_count, failed_trace, same_reads, same_trace}
use Rattle.ante_transactions.proofs.reading.read_actions.Goals as goal

pub apply_all-end-requires-clause-packed : goal.apply_all-end-requires-clause-packed
apply_all-end-requires-clause-packed g c =
    is_packed c.args.job.now.trx c.packed-packed.result.now (subst (Packs transaction c.args.job.now.trx) (sym c.packed-packed.ensures) c.trx.ensures.reads)

pub returns-in-Ok-clause-reads : goal.returns-in-Ok-clause-reads
returns-in-Ok-clause-reads g c = answered g.P.Stop.may c.args.stop.now c.apply_all-end.new.stop _ c.trace_with.result (
    c.trace_with.ensures
    ∙ same_trace chain_codes c.args.store.now.top c.args.position c.args.head c.args.slot c.args.job.now.trx c.args.job.now.packed c.as_slice-bytes.result.now None c.saturating_sub-steps.result c.apply_all-end.new.left c.apply_all-end.new.traces
    (c.as_slice-bytes.ensures ∙ c.packed-packed.ensures) c.saturating_sub-steps.ensures
    ∙ sym (done_trace chain_codes c.args.store.now.top c.args.position c.args.head c.args.slot c.args.job.now.trx c.args.job.now.packed c.requires.allowed _ (same_reads chain_codes c.args.store.now.top c.args.position c.args.head c.args.slot c.args.job.now.trx c.args.job.now.packed
    c.packed-packed.result.now c.as_slice-actions.result.now c.new-traces.result c.packed-packed.ensures (c.as_slice-actions.ensures ∙ ap (λ t. t.actions) c.trx.ensures.trx) c.new-traces.ensures) _ _ _ _ _
    c.apply_all-end.result (c.apply_all-end.ensures.follows accepts accepted 0) c.in-Ok.is))
    c.apply_all-end.ensures.reaches

pub returns-in-Ok-clause-count : goal.returns-in-Ok-clause-count
returns-in-Ok-clause-count g c = (
  c.trace_with.ensures
      ∙ same_trace chain_codes c.args.store.now.top c.args.position c.args.head c.args.slot c.args.job.now.trx c.args.job.now.packed c.as_slice-bytes.result.now None c.saturating_sub-steps.result c.apply_all-end.new.left c.apply_all-end.new.traces
      (c.as_slice-bytes.ensures ∙ c.packed-packed.ensures) c.saturating_sub-steps.ensures
      ∙ sym (done_trace chain_codes c.args.store.now.top c.args.position c.args.head c.args.slot c.args.job.now.trx c.args.job.now.packed c.requires.allowed _ (same_reads chain_codes c.args.store.now.top c.args.position c.args.head c.args.slot c.args.job.now.trx c.args.job.now.packed
      c.packed-packed.result.now c.as_slice-actions.result.now c.new-traces.result c.packed-packed.ensures (c.as_slice-actions.ensures ∙ ap (λ t. t.actions) c.trx.ensures.trx) c.new-traces.ensures) _ _ _ _ _
      c.apply_all-end.result (c.apply_all-end.ensures.follows accepts accepted 0) c.in-Ok.is),
  done_count chain_codes c.args.store.now.top c.args.position c.args.head c.args.slot c.args.job.now.trx c.args.job.now.packed c.requires.allowed _ (same_reads chain_codes c.args.store.now.top c.args.position c.args.head c.args.slot c.args.job.now.trx c.args.job.now.packed
      c.packed-packed.result.now c.as_slice-actions.result.now c.new-traces.result c.packed-packed.ensures (c.as_slice-actions.ensures ∙ ap (λ t. t.actions) c.trx.ensures.trx) c.new-traces.ensures) _ _ _ _ _
      c.apply_all-end.result (c.apply_all-end.ensures.follows accepts accepted 0) c.in-Ok.is,
)

pub returns-in-Err-Failed-clause-reads : goal.returns-in-Err-Failed-clause-reads
returns-in-Err-Failed-clause-reads g c = answered g.P.Stop.may c.args.stop.now c.apply_all-end.new.stop _ c.trace_with-in-Err-Failed.result (
    c.trace_with-in-Err-Failed.ensures
    ∙ same_trace chain_codes c.args.store.now.top c.args.position c.args.head c.args.slot c.args.job.now.trx c.args.job.now.packed c.as_slice-bytes.result.now (Some c.in-Err-Failed.failure) c.saturating_sub-steps.result c.apply_all-end.new.left c.apply_all-end.new.traces
    (c.as_slice-bytes.ensures ∙ c.packed-packed.ensures) c.saturating_sub-steps.ensures
    ∙ sym (failed_trace chain_codes c.args.store.now.top c.args.position c.args.head c.args.slot c.args.job.now.trx c.args.job.now.packed c.requires.allowed _ (same_reads chain_codes c.args.store.now.top c.args.position c.args.head c.args.slot c.args.job.now.trx c.args.job.now.packed
    c.packed-packed.result.now c.as_slice-actions.result.now c.new-traces.result c.packed-packed.ensures (c.as_slice-actions.ensures ∙ ap (λ t. t.actions) c.trx.ensures.trx) c.new-traces.ensures) _ _ _ _ _
    c.apply_all-end.result (c.apply_all-end.ensures.follows accepts accepted 0) c.in-Err-Failed.failure (c.in-Err-Failed.is ∙ ap Err c.in-Err-Failed.field-0-is)))
    c.apply_all-end.ensures.reaches

pub returns-in-Err-Failed-clause-count : goal.returns-in-Err-Failed-clause-count
returns-in-Err-Failed-clause-count g c = (
  c.trace_with-in-Err-Failed.ensures
      ∙ same_trace chain_codes c.args.store.now.top c.args.position c.args.head c.args.slot c.args.job.now.trx c.args.job.now.packed c.as_slice-bytes.result.now (Some c.in-Err-Failed.failure) c.saturating_sub-steps.result c.apply_all-end.new.left c.apply_all-end.new.traces
      (c.as_slice-bytes.ensures ∙ c.packed-packed.ensures) c.saturating_sub-steps.ensures
      ∙ sym (failed_trace chain_codes c.args.store.now.top c.args.position c.args.head c.args.slot c.args.job.now.trx c.args.job.now.packed c.requires.allowed _ (same_reads chain_codes c.args.store.now.top c.args.position c.args.head c.args.slot c.args.job.now.trx c.args.job.now.packed
      c.packed-packed.result.now c.as_slice-actions.result.now c.new-traces.result c.packed-packed.ensures (c.as_slice-actions.ensures ∙ ap (λ t. t.actions) c.trx.ensures.trx) c.new-traces.ensures) _ _ _ _ _
      c.apply_all-end.result (c.apply_all-end.ensures.follows accepts accepted 0) c.in-Err-Failed.failure (c.in-Err-Failed.is ∙ ap Err c.in-Err-Failed.field-0-is)),
  failed_count chain_codes c.args.store.now.top c.args.position c.args.head c.args.slot c.args.job.now.trx c.args.job.now.packed c.requires.allowed _ (same_reads chain_codes c.args.store.now.top c.args.position c.args.head c.args.slot c.args.job.now.trx c.args.job.now.packed
      c.packed-packed.result.now c.as_slice-actions.result.now c.new-traces.result c.packed-packed.ensures (c.as_slice-actions.ensures ∙ ap (λ t. t.actions) c.trx.ensures.trx) c.new-traces.ensures) _ _ _ _ _
      c.apply_all-end.result (c.apply_all-end.ensures.follows accepts accepted 0) c.in-Err-Failed.failure (c.in-Err-Failed.is ∙ ap Err c.in-Err-Failed.field-0-is),
)

pub returns-in-Err-Cut-clause-reads : goal.returns-in-Err-Cut-clause-reads
returns-in-Err-Cut-clause-reads g c =
    cut g.P.Stop.may c.args.stop.now c.apply_all-end.new.stop (read_only chain_codes c.args.store.now.top c.args.position c.args.head c.args.slot c.args.job.now.trx c.args.job.now.packed)
    c.in-Err-Cut.at (c.apply_all-end.ensures.cut c.in-Err-Cut.at (c.in-Err-Cut.is ∙ ap Err c.in-Err-Cut.field-0-is))
