use Rattle.std.proofs.Common.{◌<◌, length, sym, ap, subst, ◌∙◌}
use Rattle.std.specs.List.{AllByRecursion}
use Rattle.std.proofs.lemmas.List.{length-map}
use Rattle.ante_wtree.specs.Trees.{body_of, tree_of}
use Rattle.ante_wrun.specs.GrantedByValidity.{Links}
use Rattle.ante_wrun.proofs.Assured.{imports_link, types_there, as_many_bodies}
use Rattle.ante_wrun.proofs.instance.functions_of.Goals as goal

pub given_functions-requires : goal.given_functions-requires
given_functions-requires c =
    let m = tree_of c.args.module.now in
    subst (AllByRecursion (Links c.as_slice-types.result.now)) (sym c.as_slice.ensures)
    (subst (λ types. AllByRecursion (Links types) m.imports) (sym c.as_slice-types.ensures) (imports_link m c.requires))

pub add_own-requires-clause-types : goal.add_own-requires-clause-types
add_own-requires-clause-types c =
    let m = tree_of c.args.module.now in
    subst (AllByRecursion (λ kind. kind < length c.as_slice-types.result.now)) (sym c.as_slice-2.ensures)
    (subst (λ types. AllByRecursion (λ kind. kind < length types) m.functions) (sym c.as_slice-types.ensures) (types_there m c.requires))

pub add_own-requires-clause-bodies : goal.add_own-requires-clause-bodies
add_own-requires-clause-bodies c =
    let m = tree_of c.args.module.now in
    ap length c.as_slice-2.ensures ∙ as_many_bodies m c.requires ∙ length-map c.args.module.now.codes body_of ∙ sym (ap length c.as_slice-3.ensures)
