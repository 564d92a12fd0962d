use Rattle.std.proofs.Common.{sym, subst}
use Rattle.std.specs.List.{AllByRecursion}
use Rattle.ante_wtree.specs.Trees.{tree_of}
use Rattle.ante_wrun.specs.GrantedByValidity.{IsLiteral}
use Rattle.ante_wrun.proofs.Assured.{literal_elements, literal_segments}
use Rattle.ante_wrun.proofs.instance.instantiate.Goals as goal

pub put_elements-requires-clause-literal : goal.put_elements-requires-clause-literal
put_elements-requires-clause-literal c = subst (AllByRecursion (λ e. IsLiteral e.offset)) (sym c.as_slice.ensures) (literal_elements (tree_of c.args.module.now) c.requires)

pub put_segments-requires-clause-literal : goal.put_segments-requires-clause-literal
put_segments-requires-clause-literal c = subst (AllByRecursion (λ s. IsLiteral s.offset)) (sym c.as_slice-2.ensures) (literal_segments (tree_of c.args.module.now) c.requires)
