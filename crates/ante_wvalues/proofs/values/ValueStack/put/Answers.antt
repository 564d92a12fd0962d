use Rattle.std.proofs.Common.{◌-◌, slice_set, ap, ◌∙◌}
use Rattle.ante_wvalues.proofs.Regions.{view, last_view}
use Rattle.ante_wvalues.proofs.values.ValueStack.put.Goals as goal

pub returns : goal.returns
returns c =
    ap (λ xs. view xs c.self.inside.base c.self.inside.floor) c.set.ensures.items
    ∙ ap (λ k. view (slice_set c.self.inside.items.items (k - 1) c.args.value) c.self.inside.base c.self.inside.floor) c.len-last.ensures
    ∙ last_view c.self.inside.items.items c.self.inside.base c.self.inside.floor c.args.self.now c.self.view_is c.self.invariant.0 c.self.invariant.1 c.args.value c.requires
