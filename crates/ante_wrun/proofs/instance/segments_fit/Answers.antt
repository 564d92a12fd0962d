use Rattle.std.proofs.Common.{sym, subst}
use Rattle.std.specs.List.{AllByRecursion}
use Rattle.ante_wtree.specs.Trees.{tree_of}
use Rattle.ante_wrun.specs.GrantedByValidity.{IsLiteral}
use Rattle.ante_wrun.proofs.Assured.{literal_elements, literal_segments}
use Rattle.ante_wrun.proofs.instance.segments_fit.Goals as goal

pub elements_fit-requires : goal.elements_fit-requires
elements_fit-requires c = subst (AllByRecursion (λ e. IsLiteral e.offset)) (sym c.as_slice.ensures) (literal_elements (tree_of c.args.module.now) c.requires)

pub data_fits-requires : goal.data_fits-requires
data_fits-requires c = subst (AllByRecursion (λ s. IsLiteral s.offset)) (sym c.as_slice-then-elements_fit.ensures) (literal_segments (tree_of c.args.module.now) c.requires)
