use Rattle.std.proofs.Common.{ap, ◌∙◌, arith}
use Rattle.ante_wvalues.proofs.Regions.{view, local_view, locals_count}
use Rattle.ante_wvalues.proofs.values.ValueStack.set_local.Goals as goal

pub returns : goal.returns
returns c =
    let n = locals_count c.self.inside.items.items c.self.inside.base c.self.inside.floor c.args.self.now c.self.view_is c.self.invariant.0 c.self.invariant.1 in
    ap (λ xs. view xs c.self.inside.base c.self.inside.floor) c.set.ensures.items
    ∙ local_view c.self.inside.items.items c.self.inside.base c.self.inside.floor c.args.self.now c.self.view_is c.self.invariant.0 c.self.invariant.1 c.args.at c.args.value (omega (arith, c.requires, n))
