use Rattle.std.proofs.Common.{◌-◌, length, ap, ◌∙◌}
use Rattle.ante_wvalues.proofs.Regions.{view, entered_view}
use Rattle.ante_wvalues.proofs.values.ValueStack.enter.Goals as goal

pub returns-clause-ok : goal.returns-clause-ok
returns-clause-ok c =
    let ys = c.add_zeros.new.self.items in
    ap (λ k. view ys (k - c.args.params) c.len-self-inside.result) c.len-count.ensures
    ∙ ap (λ k. view ys (length c.self.inside.items.items - c.args.params) k) c.len-self-inside.ensures
    ∙ entered_view c.self.inside.items.items c.self.inside.base c.self.inside.floor c.args.self.now c.self.view_is c.self.invariant.0 c.self.invariant.1 ys c.args.params c.args.zeros c.in_ok-add_zeros.ensures.ok c.requires
