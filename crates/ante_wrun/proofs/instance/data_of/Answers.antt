use Rattle.std.proofs.Common.{sym, subst, inr}
use Rattle.std.specs.Prelude.{Any}
use Rattle.std.specs.List.{AllByRecursion}
use Rattle.ante_wmem.specs.Limits.{most_memory_pages}
use Rattle.ante_wtree.specs.Trees.{tree_of}
use Rattle.ante_wvalid.specs.declared.kinds.ModuleRule.TheVariants as rule
use Rattle.ante_wvalid.specs.declared.kinds.InvalidKind.TheVariants as invalid
use Rattle.ante_wvalid.specs.Modules.{OutOfBounds}
use Rattle.ante_wrun.specs.GrantedByValidity.{IsLiteral}
use Rattle.ante_wrun.proofs.Assured.{literal_globals}
use Rattle.ante_wrun.proofs.instance.data_of.Goals as goal

pub first_globals-requires : goal.first_globals-requires
first_globals-requires c = subst (AllByRecursion (λ g. IsLiteral g.init)) (sym c.as_slice.ensures) (literal_globals (tree_of c.args.module.now) c.requires)

-- a valid module's memory has no more pages than the profile has
pub empty_memory-requires : goal.empty_memory-requires
empty_memory-requires c = λ any. c.requires (invalid.Rule rule.Bounds) (inr (subst (Any (OutOfBounds most_memory_pages)) c.as_slice-2.ensures any))
