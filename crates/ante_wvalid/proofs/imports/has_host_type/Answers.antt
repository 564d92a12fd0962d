use Rattle.std.proofs.Common.{None, Some, sym, ◌∙◌, subst}
use Rattle.ante_wvalid.proofs.HostTypes.{has_none, has_found}
use Rattle.ante_wvalid.specs.OperandStacks.{Tells}
use Rattle.ante_wvalid.proofs.imports.has_host_type.Goals as goal

pub returns-in_default-host_type_of : goal.returns-in_default-host_type_of
returns-in_default-host_type_of c = (λ e. cc, λ h. absurd (has_none c.args.types.now c.args.import.now (subst (λ x. Tells x None) c.as_slice.ensures c.in_default-host_type_of.ensures) h))

pub returns : goal.returns
returns c =
    let tells = subst (λ x. Tells x (Some (c.in-Some-host_type_of.params.now, c.in-Some-host_type_of.result))) c.as_slice.ensures c.in-Some-host_type_of.ensures in
    let h = has_found c.args.types.now c.args.import.now c.in-Function.number c.in-Some.found.now c.in-Some-host_type_of.params.now c.in-Some-host_type_of.result c.in-Function.is (sym c.in-Some.ensures) tells in (
      λ t. let p = c.same_type.ensures.equal.0 t in h.0 (p.0, p.1 ∙ c.kinds.ensures),
      λ x. let p = h.1 x in c.same_type.ensures.equal.1 (p.0, p.1 ∙ sym c.kinds.ensures),
    )
