use Rattle.std.proofs.Common.{◌-◌, length, take, drop, ap, ◌∙◌}
use Rattle.ante_wvalues.proofs.Regions.{args_view}
use Rattle.ante_wvalues.proofs.values.ValueStack.arguments.Goals as goal

pub returns : goal.returns
returns c =
    let xs = c.self.inside.items.items in
    ap (λ k. take (k - 1 - (k - 1 - c.args.count)) (drop (k - 1 - c.args.count) c.as_slice.result.now)) c.len-end.ensures
    ∙ ap (λ l. take (length xs - 1 - (length xs - 1 - c.args.count)) (drop (length xs - 1 - c.args.count) l)) c.as_slice.ensures
    ∙ args_view xs c.self.inside.base c.self.inside.floor c.args.self.now c.self.view_is c.self.invariant.0 c.self.invariant.1 c.args.count c.requires
