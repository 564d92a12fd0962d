use Rattle.std.proofs.Common.{ap, ◌∙◌}
use Rattle.ante_wvalues.proofs.Regions.{kept_discard}
use Rattle.ante_wvalues.proofs.values.ValueStack.discard.Goals as goal

pub returns : goal.returns
returns c =
    let v = c.args.self.now in
    c.keep.ensures ∙ ap (λ r. record { below = v.below; locals = v.locals; stack = r }) (kept_discard c.height-height.result c.args.count v.stack c.height-height.ensures c.requires)
