use Rattle.std.proofs.Common.{ap, ◌∙◌}
use Rattle.sha2.specs.Sha256.{sha256}
use Rattle.ante_digest.specs.Digest.{packed_lists, state_digest}
use Rattle.ante_store.proofs.Shares.{usage_is}
use Rattle.ante_store.proofs.store.Store.digest.Goals as goal

pub returns : goal.returns
unfolding state_digest
returns c =
    let usage =
    usage_is c.args.self.now.top c.usage-usage.result.now.top c.entries_hold.ensures.ordered c.entries_hold.ensures.counted c.usage-usage.ensures.used
    c.usage-usage.ensures.quotas in
    let o = c.objects.ensures in
    let r = c.rows.ensures in
    let x = c.indexes.ensures in
    c.digest_of_parts.ensures
    ∙ ap (λ lists. sha256 (packed_lists lists)) (λ i. record {
      accounts = o.accounts i;
      permissions = o.permissions i;
      links = o.links i;
      usage = usage i;
      recent = o.recent i;
      references = o.references i;
      tables = r.tables i;
      rows = r.rows i;
      index64 = x.index64 i;
      index128 = x.index128 i;
      index256 = x.index256 i;
    })
