use Rattle.std.proofs.Common.{ap, subst, sym, slice_get, ◌∙◌}
use Rattle.ante_wvalid.specs.OperandStacks.{Meets, IsRefused}
use Rattle.ante_wvalid.proofs.Places.{one_further, get_past, that_one}
use Rattle.ante_wvalid.proofs.imports.first_refused.Goals as goal

pub imports-preserved : goal.imports-preserved
imports-preserved c = one_further (IsRefused c.args.module.now.types c.args.rule c.args.module.now.imports) c.imports.at c.imports.invariant
    (λ r. r.2 (that_one (Meets c.args.module.now.types c.args.rule) c.args.module.now.imports c.imports.at c.in-Some.import.now r.0 (ap (λ xs. slice_get xs c.imports.at) (sym c.as_slice-imports.ensures) ∙ sym c.in-Some.ensures.item) r.1 (subst (λ ts. Meets ts c.args.rule c.in-Some.import.now) c.as_slice.ensures (c.meets.ensures.0 c.if-not-meets.false))))

pub returns : goal.returns
returns c = λ k r. c.imports.invariant k (get_past c.args.module.now.imports c.imports.at k r.0 (ap (λ xs. slice_get xs c.imports.at) (sym c.as_slice-imports.ensures) ∙ sym c.in_default.ensures.item) r.1) r
