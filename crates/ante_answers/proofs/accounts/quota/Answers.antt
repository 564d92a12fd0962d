use Rattle.std.proofs.Common.{◌∙◌, w64}
use Rattle.std.proofs.lemmas.Int.{to_z-of_z}
use Rattle.std.proofs.Math.Facts.{sfits_lit, yes_leb}
use Rattle.ante_answers.proofs.Quotas.{quota_is}
use Rattle.ante_answers.proofs.accounts.quota.Goals as goal

pub returns : goal.returns
returns c =
    to_z-of_z w64 c.quota.result (sfits_lit (yes_leb c.quota.type_inv)) ∙ c.quota.ensures
    ∙ quota_is c.args.store.now.top c.args.account c.usage-usage.result.now.top c.entries_hold.ensures.ordered c.usage-usage.ensures.quotas
